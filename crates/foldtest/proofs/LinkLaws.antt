-- The test of numbers, and after it that of faces.
-- Assumes nothing.
use Prim.Native.Nat.{ℕ, ◌≤◌, ◌<◌}
use mathlib.Core.Path.{◌≡◌, refl, sym, ap₂, ◌∙◌}
use mathlib.Core.List.{List}
use mathlib.Core.Bool.{Bool, true, false, ◌&&◌}
use lib.Dec.{leb, eqb}
use lib.Ieee.{Float}
use borrow.Author.Tests.{le-leb, lt-leb}
use Rattle.geometry.specs.declared.Point.{Point}
use Rattle.lists.specs.Lists.{count, stretch}
use Rattle.walk.specs.declared.Reason.{Reason}
use Rattle.walk.specs.Faces.{holds, common, face_at}
use Rattle.memory.specs.Memory.{live_faces, live_numbers}
use Rattle.mesh.specs.Clauses.Around.{Gathered}
use Rattle.ring.proofs.LiveLaws.{count-gathered}
use Rattle.walk.specs.declared.Reason.TheVariants.{NotLinked}
use Rattle.std.specs.Prelude.{⊤, Result, Err}
use Rattle.walk.specs.FoldTest.{linked, first_harm}
use Rattle.foldtest.specs.Clauses.Fair.{harm_at}
use Rattle.foldtest.specs.Clauses.Allowed.{tested_at}

module _ {v f : ℕ} {w : List ℕ} {keep near n s : ℕ} (remove : ℕ) (at-keep : Gathered v f w keep near n)
    (counted : s ≡ count (λ k. holds remove (face_at w k)) (stretch w near n)) where
  link-known : {c : ℕ} → c ≡ common v (live_faces f w) keep remove → (leb 1 s && eqb c s) ≡ linked v (live_faces f w) keep remove
  link-known d = ap₂ (λ (s c : ℕ). leb 1 s && eqb c s) (counted ∙ count-gathered at-keep remove) d

  -- no face holds both
  pub not-linked : s < 1 → false ≡ linked v (live_faces f w) keep remove
  not-linked h = rw (lt-leb 1 s h) at (link-known refl)

  -- some face does, so the common neighbours decide
  pub link-decided : 1 ≤ s → {c : ℕ} → c ≡ common v (live_faces f w) keep remove → eqb c s ≡ linked v (live_faces f w) keep remove
  link-decided h d = rw (le-leb 1 s h) at (link-known d)

module _ (v f : ℕ) (w : List ℕ) (p : List Float) (keep remove : ℕ) (place : Point) {a : Bool}
    (first : a ≡ linked v (live_faces f w) keep remove) where
  -- the points aren't linked
  pub tested-unlinked : a ≡ false → Err NotLinked ≡ tested_at v f w p keep remove place
  unfolding tested_at
  tested-unlinked t = rw (sym first ∙ t)

  -- they are, so the faces decide
  pub tested-by-faces : a ≡ true → {w' : List ℕ} → w' ≡ w → {r : Result ⊤ Reason} →
      r ≡ first_harm (harm_at p keep remove place) (live_faces f w') (live_numbers f w') → r ≡ tested_at v f w p keep remove place
  unfolding tested_at
  tested-by-faces t same d = rw (sym first ∙ t) (rw same at d)
