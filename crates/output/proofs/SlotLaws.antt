-- The slots, one after another: what is written after the first k of them.
-- Assumes nothing.
use Prim.Native.Nat.{ℕ, ◌+◌, ◌*◌, ◌≤◌, ◌<◌}
use native.Mathlib.Nat.{le_antisymm}
use native.Mathlib.Numerals.{add-one}
use native.Mathlib.Omega.{arith}
use mathlib.Core.Path.{◌≡◌, refl, sym, ap, subst, ◌∙◌}
use mathlib.Core.List.{List, [], ◌∷◌, ◌++◌, map, map-append, append-nil}
use mathlib.Core.Bool.{Bool, true, false}
use lib.ListN.{length, length-map}
use lib.Ieee.{Float}
use Rattle.walk.specs.declared.Face.{Face}
use Rattle.lists.specs.Lists.{those, below, every, some}
use Rattle.walk.specs.Faces.{proper, face_at}
use Rattle.walk.specs.Output.{used, renumbered, numbers_of}
use Rattle.lists.proofs.EveryLaws.{length-those, those-append}
use Rattle.walk.proofs.PlaceLaws.{once-none}
use Rattle.memory.specs.Memory.{lives, live_faces, Room}
use Rattle.lists.specs.Frames.{But}
use Rattle.mesh.specs.Clauses.Chains.{Tidy}
use Rattle.lists.proofs.BelowLaws.{count-below-most}
use Rattle.lists.proofs.FrameLaws.{but-refl, but-then}
use Rattle.memory.proofs.FrameLaws.{lives-but, face-but}
use Rattle.memory.specs.Points.{parts_of}
use Rattle.output.specs.declared.Counts.{Counts}
use Rattle.output.specs.Clauses.Written.{MeshWritten}
use Rattle.output.specs.Clauses.Numbering.{Known, FacesOut, FaceWritten}
use Rattle.memory.specs.Layout.{marks_from, stamps_from}

-- the live faces among the first k slots
abbrev pub first_faces : ℕ → List ℕ → ℕ → List Face
first_faces f w k = map (face_at w) (those (lives f w) (below k))

-- one slot more
first_next : (f : ℕ) (w : List ℕ) (k : ℕ) → first_faces f w (k + 1) ≡ first_faces f w k ++ map (face_at w) (those (lives f w) (k ∷ []))
unfolding below
first_next f w k =
    rw (add-one k)
    (ap (map (face_at w)) (those-append (lives f w) (below k) (k ∷ []))
    ∙ map-append (face_at w) (those (lives f w) (below k)) (those (lives f w) (k ∷ [])))

-- a live face more
first_live : (f : ℕ) (w : List ℕ) (k : ℕ) → lives f w k ≡ true → first_faces f w (k + 1) ≡ first_faces f w k ++ (face_at w k ∷ [])
unfolding those
first_live f w k e = first_next f w k ∙ rw e

-- a dead face adds nothing
first-dead : (f : ℕ) (w : List ℕ) (k : ℕ) → lives f w k ≡ false → first_faces f w (k + 1) ≡ first_faces f w k
unfolding those
first-dead f w k e = first_next f w k ∙ rw e (append-nil (first_faces f w k))

-- at most one face to a slot
length-first : (f : ℕ) (w : List ℕ) (k : ℕ) → length (first_faces f w k) ≤ k
length-first f w k =
    omega (arith, length-map (those (lives f w) (below k)) (face_at w), length-those (lives f w) (below k), count-below-most (lives f w) k)

-- what holds after k slots
pub record Turn (v f : ℕ) (p : List Float) (w₀ : List ℕ) (points₀ : List Float) (faces₀ : List ℕ)
    (w : List ℕ) (points : List Float) (faces : List ℕ) (counts : Counts) (k : ℕ) : Type 0 where
  pub within : k ≤ f
  pub tidy : Tidy v f w₀
  pub enough : 3 * f ≤ length faces₀
  pub but : But (marks_from v f) (stamps_from v f) w₀ w
  pub same_faces : length faces ≡ length faces₀
  pub listed : FacesOut v f p points₀ faces₀ (first_faces f w₀ k) w points faces counts

-- no slot yet
pub turn-none : {v f : ℕ} {p : List Float} {w : List ℕ} {points : List Float} {faces : List ℕ} →
    Tidy v f w → 3 * v ≤ length points → 3 * f ≤ length faces → Turn v f p w points faces w points faces (record { points = 0; faces = 0 }) 0
unfolding below those used every parts_of renumbered numbers_of some
turn-none {v} {f} {p} {w} {points} {faces} t long enough = record {
  within = omega arith;
  tidy = t;
  enough = enough;
  but = but-refl (marks_from v f) (stamps_from v f) w;
  same_faces = refl;
  listed = record {
    met = record { marks = t.unmarked; out = refl; counted = refl; low = refl; once = once-none; long = long };
    faces_written = refl;
    faces_counted = refl;
  };
}

module _ {v f : ℕ} {p : List Float} {w₀ : List ℕ} {points₀ : List Float} {faces₀ w : List ℕ} {points : List Float} {faces : List ℕ} {counts : Counts} {k : ℕ}
    (t : Turn v f p w₀ points₀ faces₀ w points faces counts k) where
  -- the memory has room
  pub turn-room : Room v f w
  turn-room = record {
    points_few = t.tidy.room.points_few;
    faces_few = t.tidy.room.faces_few;
    long = omega (arith, t.tidy.room.long, t.but.same_length);
  }

  -- some list is that of the points met
  pub turn-known : Known v f p w points counts.points
  turn-known = record { old = points₀; seen = used [] (first_faces f w₀ k); met-now = t.listed.met }

  module _ (k-low : k < f) (flag : Bool) (read : flag ≡ lives f w k) where
    -- the flag is that of the beginning
    same_flag : lives f w₀ k ≡ flag
    same_flag = sym (lives-but t.but (omega arith) k k-low) ∙ sym read

    -- a slot whose face is dead
    pub turn-dead : flag ≡ false → Turn v f p w₀ points₀ faces₀ w points faces counts (k + 1)
    turn-dead dead = record {
      within = omega arith;
      tidy = t.tidy;
      enough = t.enough;
      but = t.but;
      same_faces = t.same_faces;
      listed = rw (first-dead f w₀ k (same_flag ∙ dead)) t.listed;
    }

    module _ (alive : flag ≡ true) (face : Face) (taken : face ≡ face_at w k) where
      -- the face was live at the beginning
      is_live : lives f w₀ k ≡ true
      is_live = same_flag ∙ alive

      -- and is the one that stood there
      same-face : face ≡ face_at w₀ k
      same-face = taken ∙ face-but t.but (omega arith) k k-low

      -- a slot whose face is live: the face is proper, and there is room for it
      pub turn-proper : proper v face ≡ true
      turn-proper = ap (proper v) same-face ∙ t.tidy.faces_proper k k-low is_live

      -- the output has room for one face more
      room-before : 3 * length (first_faces f w₀ k) + 3 ≤ length faces₀
      room-before = omega (arith, length-first f w₀ k, t.enough)

      -- so has what is left of it
      pub turn-fits : 3 * counts.faces + 3 ≤ length faces
      turn-fits = omega (arith, room-before, t.listed.faces_counted, t.same_faces)

      -- and then it is written
      pub turn-live : {w' : List ℕ} {points' : List Float} {faces' : List ℕ} {r : Counts} →
          FaceWritten v f p face w points faces counts w' points' faces' r → Turn v f p w₀ points₀ faces₀ w' points' faces' r (k + 1)
      turn-live {w'} {points'} {faces'} {r} h = record {
        within = omega arith;
        tidy = t.tidy;
        enough = t.enough;
        but = but-then t.but h.but;
        same_faces = h.same_faces ∙ t.same_faces;
        listed =
            rw (first_live f w₀ k is_live, ← same-face)
            (h.listed points₀ faces₀ (first_faces f w₀ k) room-before t.listed);
      }

  -- all slots
  pub turn-all : f ≤ k → MeshWritten v f w₀ p points₀ faces₀ w points faces counts
  unfolding live_faces
  turn-all all =
      let h : FacesOut v f p points₀ faces₀ (first_faces f w₀ f) w points faces counts =
      subst (λ (n : ℕ). FacesOut v f p points₀ faces₀ (first_faces f w₀ n) w points faces counts) (le_antisymm t.within all) t.listed in
      record {
        but = t.but;
        points_written = h.met.out;
        faces_written = h.faces_written;
        points_counted = h.met.counted;
        faces_counted = h.faces_counted;
      }
