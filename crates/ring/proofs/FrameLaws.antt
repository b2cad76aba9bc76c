-- What stays as it was where only marks and listed points change: sizes, faces, the gathered faces.
-- Assumes nothing.
use Prim.Native.Nat.{ℕ, ◌+◌, ◌*◌, ◌≤◌, ◌<◌}
use native.Mathlib.Omega.{arith}
use mathlib.Core.Path.{◌≡◌, refl, ap, ◌∙◌}
use mathlib.Core.List.{List}
use mathlib.Core.Bool.{true}
use Rattle.walk.specs.declared.Face.{Face}
use Rattle.walk.specs.Faces.{proper, face_at}
use Rattle.memory.specs.Memory.{Room, near_at}
use Rattle.lists.specs.Frames.{But}
use Rattle.ring.specs.Clauses.Wanting.{Near}
use Rattle.ring.specs.Clauses.Taking.{Framed}
use Rattle.memory.specs.Layout.{around_from, marks_from, near_from, folds_from, stamps_from}

pub framed-refl : (v f : ℕ) (w : List ℕ) → Framed v f w w
framed-refl v f w = record { same_length = refl; under = λ i l. refl; between = λ i l m. refl; over = λ i l. refl }

pub framed_then : {v f : ℕ} {w w' w'' : List ℕ} → Framed v f w w' → Framed v f w' w'' → Framed v f w w''
framed_then p q = record {
  same_length = q.same_length ∙ p.same_length;
  under = λ i l. q.under i l ∙ p.under i l;
  between = λ i l m. q.between i l m ∙ p.between i l m;
  over = λ i l. q.over i l ∙ p.over i l;
}

-- marks change, or listed points
pub framed-marks : {v f : ℕ} {w w' : List ℕ} → But (marks_from v f) (stamps_from v f) w w' → Framed v f w w'
framed-marks but = record {
  same_length = but.same_length;
  under = λ i l. but.under i l;
  between = λ i l m. but.over i l;
  over = λ i l. but.over i (omega arith);
}

pub framed-points : {v f : ℕ} {w w' : List ℕ} → But (around_from v f) (folds_from v f) w w' → Framed v f w w'
framed-points but = record {
  same_length = but.same_length;
  under = λ i l. but.under i (omega arith);
  between = λ i l m. but.under i m;
  over = λ i l. but.over i l;
}

module _ {v f : ℕ} {w w' : List ℕ} (frame : Framed v f w w') where
  pub framed-room : Room v f w → Room v f w'
  framed-room room = record { points_few = room.points_few; faces_few = room.faces_few; long = omega (arith, frame.same_length) }

  framed-face : (k : ℕ) → k < f → face_at w' k ≡ face_at w k
  framed-face k l = rw (frame.under (3 * k) (omega arith), frame.under (3 * k + 1) (omega arith), frame.under (3 * k + 2) (omega arith))

  framed-near : (i : ℕ) → i < f → near_at v f w' i ≡ near_at v f w i
  framed-near i l = frame.between (near_from v f + i) (omega arith) (omega arith)

  module _ {n : ℕ} (few : n ≤ f) (near : Near v f w n) where
    pub framed-list : Near v f w' n
    framed-list i l =
        let here = near i l in
        rw (framed-near i (omega arith)) (here.0, ap (proper v) (framed-face (near_at v f w i) here.0) ∙ here.1)

    -- a face that is read now is the one that was listed
    pub face-listed : (i : ℕ) → i < n → face_at w' (near_at v f w' i) ≡ face_at w (near_at v f w i)
    face-listed i l = rw (framed-near i (omega arith)) (framed-face (near_at v f w i) (near i l).0)

    module _ {i : ℕ} (l : i < n) {face : Face} (read : face ≡ face_at w' (near_at v f w' i)) where
      pub read-listed : face ≡ face_at w (near_at v f w i)
      read-listed = read ∙ face-listed i l

      pub read-proper : proper v face ≡ true
      read-proper = ap (proper v) read ∙ (framed-list i l).1
