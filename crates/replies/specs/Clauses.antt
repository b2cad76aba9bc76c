-- What the functions that write a reply ask and leave.
use Rattle.std.specs.Prelude.{ℕ, ◌*◌, ◌/◌, ◌≤◌, ◌≡◌, List, length, take, Float}
use Rattle.lists.specs.Lists.{overlaid}
use Rattle.meaning.specs.declared.Answer.{Answer}
use Rattle.scanwriter.specs.Written.{scan_bytes}
use Rattle.scanwriter.specs.Back.{ReadBack}
use Rattle.walk.specs.declared.Closings.{Closings}
use Rattle.replies.specs.declared.Wanted.{Wanted}
use Rattle.replies.specs.declared.Wanted.TheVariants.{Listing, File}
use Rattle.replies.specs.declared.Reply.{Reply}
use Rattle.replies.specs.declared.Reply.TheVariants.{Mesh, Refusal}
use Rattle.replies.specs.Replies.{Told, mesh, refusal, told_bytes, with_why}

-- bytes are a scan file: the one of a unit, points and faces, which the reader finds in it
pub record IsScan (bytes : List ℕ) : Type 0 where
  pub unit : ℕ
  pub points : List Float
  pub faces : List ℕ
  pub bytes_are : bytes ≡ scan_bytes unit points faces
  pub back : ReadBack unit points faces bytes

-- a reply as the code answers it
abbrev pub reply_in : Told → Reply
reply_in (mesh bytes closed) = Mesh (length bytes) closed
reply_in (refusal number place line closed) = Refusal (length line) number place closed

-- how many bytes it is
abbrev pub size_of : Reply → ℕ
size_of (Mesh n closed) = n
size_of (Refusal n number place closed) = n

-- no listing of at most 128 points and 256 faces is longer, and no refusal's line
abbrev pub listing_room : ℕ
listing_room = 11992

-- A reply's bytes stand at the beginning, the rest is as it came. A mesh that was asked for as a file is a scan file.
pub record Replied (wanted : Wanted) (t : Told) (old new : List ℕ) (r : Reply) : Type 0 where
  pub written : new ≡ overlaid (told_bytes t) old
  pub answered : r ≡ reply_in t
  pub short : wanted ≡ Listing → length (told_bytes t) ≤ listing_room
  pub within : length (told_bytes t) ≤ length new
  pub is_scan : (n : ℕ) (closed : Closings) → wanted ≡ File → r ≡ Mesh n closed → IsScan (take n new)

-- The same with the line of the pairs closed after it.
pub record RepliedWhy (t : Told) (old new : List ℕ) (r : Reply) : Type 0 where
  pub written : new ≡ overlaid (told_bytes (with_why t)) old
  pub answered : r ≡ reply_in (with_why t)
  pub within : length (told_bytes (with_why t)) ≤ length new

-- a mesh is no larger than the program's memory
pub record Small (points : List Float) (faces : List ℕ) : Type 0 where
  pub points_by_three : length points ≡ 3 * (length points / 3)
  pub faces_by_three : length faces ≡ 3 * (length faces / 3)
  pub points_most : length points ≤ 384
  pub faces_most : length faces ≤ 768

-- an answer's mesh is there, and is no larger than the program's memory
pub record Shown (r : Answer) (points : List Float) (faces : List ℕ) : Type 0 where
  pub points_there : 3 * r.points ≤ length points
  pub faces_there : 3 * r.faces ≤ length faces
  pub points_most : length points ≤ 384
  pub faces_most : length faces ≤ 768
