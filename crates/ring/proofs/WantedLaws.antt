-- Marks that are set, one corner after another and one face after another.
-- Assumes nothing.
use Prim.Native.Nat.{ℕ, ◌+◌, ◌<◌}
use mathlib.Core.Path.{◌≡◌, refl, sym, ap, ◌∙◌}
use mathlib.Core.List.{List}
use mathlib.Core.Bool.{Bool, true, false, ◌&&◌, ◌||◌, cond}
use lib.Dec.{eqb}
use lib.ListN.{set}
use borrow.Author.Tests.{eqb-true}
use Rattle.walk.specs.declared.Face.{Face}
use Rattle.lists.specs.Lists.{some, below}
use Rattle.walk.specs.Faces.{holds, face_at}
use Rattle.lists.proofs.TestLaws.{by-test}
use Rattle.lists.proofs.CondLaws.{cond_either}
use Rattle.memory.specs.Memory.{mark, Room, near_at}
use Rattle.ring.specs.Clauses.Wanting.{found, Marks}
use Rattle.ring.proofs.SlotLaws.{some_more}
use Rattle.ring.proofs.MarkLaws.{remarked-none, remarked-then, remarked-as, remarked-set}
use Rattle.memory.specs.Layout.{marks_from, near_from}

-- ---- tests

-- a test at a number that is u, or at u
at_same : (test : ℕ → Bool) (u y : ℕ) → (eqb u y && test y) ≡ (eqb u y && test u)
at_same test u y = by-test (eqb u y) (λ e. rw (e, eqb-true u y e)) (λ e. rw e)

-- three tests with a fourth
or-and : (a b c d : Bool) → (a && d || b && d || c && d) ≡ ((a || b || c) && d)
or-and true b c true = refl
or-and true true true false = refl
or-and true true false false = refl
or-and true false true false = refl
or-and true false false false = refl
or-and false true c true = refl
or-and false true true false = refl
or-and false true false false = refl
or-and false false true d = refl
or-and false false false d = refl

-- a test at the corners of a face is one at the points that it holds
at-corners : (test : ℕ → Bool) (u : ℕ) (f : Face) →
    (eqb u f.a && test f.a || eqb u f.b && test f.b || eqb u f.c && test f.c) ≡ (holds u f && test u)
at-corners test u f =
    rw (at_same test u f.a, at_same test u f.b, at_same test u f.c) (or-and (eqb u f.a) (eqb u f.b) (eqb u f.c) (test u))

-- one more face is looked at
pub found_none : (v f : ℕ) (w : List ℕ) (test : Face → Bool) → found v f w 0 test ≡ false
unfolding some below
found_none v f w test = refl

pub found-next : (v f : ℕ) (w : List ℕ) (n : ℕ) (test : Face → Bool) →
    found v f w (n + 1) test ≡ (found v f w n test || test (face_at w (near_at v f w n)))
found-next v f w n test = some_more (λ k. test (face_at w k)) w (near_from v f) n

-- ---- marks

module _ {v f : ℕ} {w : List ℕ} where
  -- no mark is set
  pub marks-none : {which : ℕ → Bool} → ((u : ℕ) → which u ≡ false) → Marks v f which w w
  marks-none none = remarked-as (λ u l. rw (none u)) (remarked-none w)

  -- one is
  pub marks-one : {which : ℕ → Bool} {w' : List ℕ} (y : ℕ) → Room v f w → y < v → ((u : ℕ) → which u ≡ eqb u y) → w' ≡ set w (marks_from v f + y) 1 →
      Marks v f which w w'
  marks-one y room within just e = rw e (remarked-as (λ u l. rw (just u)) (remarked-set y 1 room within))

  -- some, and then others
  marks_then : (a b : ℕ → Bool) {w' w'' : List ℕ} → Marks v f a w w' → Marks v f b w' w'' → Marks v f (λ u. a u || b u) w w''
  marks_then a b one two = remarked-as (λ u l. cond_either (a u) (b u) 1 (mark v f w u)) (remarked-then one two)

  -- the same ones, said otherwise
  marks-as : {a b : ℕ → Bool} {w' : List ℕ} → ((u : ℕ) → a u ≡ b u) → Marks v f a w w' → Marks v f b w w'
  marks-as same one = remarked-as (λ u l. ap (λ (t : Bool). cond t 1 (mark v f w u)) (same u)) one

  -- the corners of a face, one after another
  pub marks-face : {w₁ w₂ w₃ : List ℕ} (test : ℕ → Bool) (face : Face) → Marks v f (λ u. eqb u face.a && test face.a) w w₁ →
      Marks v f (λ u. eqb u face.b && test face.b) w₁ w₂ → Marks v f (λ u. eqb u face.c && test face.c) w₂ w₃ →
      Marks v f (λ u. holds u face && test u) w w₃
  marks-face test face a b c =
      marks-as (λ u. at-corners test u face)
      (marks_then (λ u. eqb u face.a && test face.a || eqb u face.b && test face.b) (λ u. eqb u face.c && test face.c)
      (marks_then (λ u. eqb u face.a && test face.a) (λ u. eqb u face.b && test face.b) a b) c)

-- ---- one face after another

-- the points that a test finds in the first i faces are marked
pub record Marking (v f : ℕ) (test : ℕ → Face → Bool) (w : List ℕ) (i : ℕ) (w' : List ℕ) : Type 0 where
  pub so_far : Marks v f (λ u. found v f w i (test u)) w w'

module _ {v f : ℕ} {test : ℕ → Face → Bool} {w : List ℕ} where
  pub marking-none : Marking v f test w 0 w
  marking-none = record { so_far = marks-none (λ u. found_none v f w (test u)) }

  pub marking-next : {i : ℕ} {w' w'' : List ℕ} → Marking v f test w i w' →
      {face : Face} → face ≡ face_at w (near_at v f w i) → Marks v f (λ u. test u face) w' w'' → Marking v f test w (i + 1) w''
  marking-next {i} before {face} here more =
      record {
        so_far =
            marks-as (λ u. ap (λ (p : Face). found v f w i (test u) || test u p) here ∙ sym (found-next v f w i (test u)))
            (marks_then (λ u. found v f w i (test u)) (λ u. test u face) before.so_far more);
      }

  pub marking-all : {i n : ℕ} {w' : List ℕ} → i ≡ n → Marking v f test w i w' → Marks v f (λ u. found v f w n (test u)) w w'
  marking-all e end = marks-as (λ u. ap (λ (k : ℕ). found v f w k (test u)) e) end.so_far
