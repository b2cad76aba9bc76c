-- The program may stop reading one byte past the longest good file: the reply to what it has read is the reply to the whole input.
-- Assumes nothing.
use Prim.Native.Nat.{ℕ, ◌≤◌}
use native.Mathlib.Omega.{arith}
use mathlib.Core.Path.{◌≡◌, refl, ap, ◌∙◌}
use mathlib.Core.List.{List}
use lib.ListN.{take}
use lib.Seq.{take_all}
use Rattle.std.specs.Prelude.{Ok, Err}
use Rattle.scanfile.specs.Scans.{Scan, scan_of}
use Rattle.scanfile.proofs.GoodLaws.{good-longest}
use Rattle.scanfile.proofs.PrefixLaws.{prefix-enough}
use Rattle.replies.specs.declared.Wanted.{Wanted}
use Rattle.replies.specs.Replies.{reply_by, reply_of}

pub reply-prefix : (wanted : Wanted) (n : ℕ) → 5157 ≤ n → (bytes : List ℕ) → reply_of wanted (take n bytes) ≡ reply_of wanted bytes
unfolding reply_of reply_by
reply-prefix wanted n most bytes = ap (reply_by wanted (take n bytes)) (prefix-enough n most bytes) ∙ by-scan (scan_of bytes) refl
  where
    by-scan : (d : Scan) → scan_of bytes ≡ d → reply_by wanted (take n bytes) d ≡ reply_by wanted bytes d
    by-scan (Err bad) e = refl
    by-scan (Ok head) e = ap (λ (read : List ℕ). reply_by wanted read (Ok head)) (take_all n bytes (omega (arith, good-longest bytes head e)))
