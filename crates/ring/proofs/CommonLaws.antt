-- Counting marked points, each once; and why those that are left to count around the second point are the common neighbours.
-- Assumes nothing.
use Prim.Native.Nat.{ℕ, ◌+◌, ◌≤◌, ◌<◌}
use native.Mathlib.Nat.{add-zero, zero-add}
use native.Mathlib.Omega.{arith}
use mathlib.Core.Path.{◌≡◌, refl, sym, ap, subst, ◌∙◌}
use mathlib.Core.Logic.{◌≢◌, inl}
use mathlib.Core.List.{List}
use mathlib.Core.Bool.{Bool, true, false, not, ◌&&◌, ◌||◌, cond, and-true, and-false}
use lib.Dec.{ltb, eqb}
use borrow.Author.Tests.{eqb-true, lt-ltb}
use Rattle.std.specs.Int.{from_bool}
use Rattle.walk.specs.declared.Face.{Face}
use Rattle.lists.specs.Lists.{some, below}
use Rattle.walk.specs.Faces.{holds, shared, neighbour, common, face_at}
use Rattle.lists.proofs.TestLaws.{by-test}
use Rattle.lists.proofs.CondLaws.{cond_same}
use Rattle.lists.proofs.SumLaws.{sum-add}
use Rattle.lists.proofs.BelowLaws.{sum-pick, length-below, sum-same-below}
use Rattle.memory.specs.Memory.{live_faces, mark}
use Rattle.mesh.specs.Clauses.Chains.{Tidy}
use Rattle.mesh.specs.Clauses.Around.{Marked, Cleared}
use Rattle.ring.specs.Clauses.Marking.{Around, Remarked, held_in}
use Rattle.ring.specs.Clauses.Counting.{other, marked, Counted}
use Rattle.lists.proofs.EveryLaws.{count_most}
use Rattle.mesh.proofs.AroundLaws.{live-faces-but}
use Rattle.ring.proofs.SlotLaws.{around-but}
use Rattle.ring.proofs.LiveLaws.{some-gathered}
use Rattle.ring.proofs.MarkLaws.{remarked-none, remarked-then, remarked-as}
use Rattle.ring.proofs.TurnLaws.{Next, some_next}
use Rattle.ring.proofs.AroundLaws.{marks-shared, cleared-back}

-- a flag as a number
pub flag_number : (b : Bool) → from_bool b ≡ cond b 1 0
flag_number true = refl
flag_number false = refl

-- ---- one count after another

neither : (a b : Bool) → not (a || b) ≡ (not a && not b)
neither true b = refl
neither false b = refl

either-asked : (a b o : Bool) (m : ℕ) → cond (b && o) 0 (cond (a && o) 0 m) ≡ cond ((a || b) && o) 0 m
either-asked true true true m = refl
either-asked true true false m = refl
either-asked true false true m = refl
either-asked true false false m = refl
either-asked false b o m = refl

module _ {v f keep remove : ℕ} where
  pub counted-then : {asked next : ℕ → Bool} {w w' w'' : List ℕ} {r s : ℕ} → Counted v f keep remove asked w w' r →
      Counted v f keep remove next w' w'' s → Counted v f keep remove (λ u. asked u || next u) w w'' (r + s)
  counted-then {asked} {next} {w} p q = record {
    remarked =
        remarked-as (λ u l. either-asked (asked u) (next u) (other keep remove u) (mark v f w u)) (remarked-then p.remarked q.remarked);
    number = omega (arith, p.number, q.number);
  }

  -- the same points, asked for in another way
  pub counted-as : {asked same : ℕ → Bool} {w w' : List ℕ} {r : ℕ} → ((u : ℕ) → asked u ≡ same u) →
      Counted v f keep remove asked w w' r → Counted v f keep remove same w w' r
  counted-as {asked} {same} {w} e p = record {
    remarked = remarked-as (λ u l. ap (λ (b : Bool). cond (b && other keep remove u) 0 (mark v f w u)) (e u)) p.remarked;
    number = p.number;
  }

  -- no more than there are points
  pub counted-few : {asked : ℕ → Bool} {w w' : List ℕ} {r : ℕ} → Counted v f keep remove asked w w' r → r ≤ v
  counted-few {asked} {w} {w'} p =
      omega (arith, p.number, count_most (λ u. other keep remove u && ltb 0 (mark v f w u)) (below v), length-below v)

  -- ---- one point

  -- it is passed over
  counted_skip : (w : List ℕ) (x : ℕ) →
      ((u : ℕ) → u < v → eqb u x ≡ true → cond (other keep remove u) 0 (mark v f w u) ≡ mark v f w u) →
      Counted v f keep remove (λ u. eqb u x) w w 0
  counted_skip w x stays = record {
    remarked = remarked-as (λ u l. by-test (eqb u x) (λ e. rw e (sym (stays u l e))) (λ e. rw e)) (remarked-none w);
    number = zero-add (marked v f w keep remove);
  }

  counted_same : (w : List ℕ) (x : ℕ) → other keep remove x ≡ false → Counted v f keep remove (λ u. eqb u x) w w 0
  counted_same w x same = counted_skip w x (λ u l e. rw (eqb-true u x e, same))

  pub counted-either : (w : List ℕ) (x : ℕ) → (eqb keep x || eqb remove x) ≡ true → Counted v f keep remove (λ u. eqb u x) w w 0
  counted-either w x e = counted_same w x (sym (neither (eqb keep x) (eqb remove x)) ∙ ap not e)

  pub counted-unmarked : (w : List ℕ) (x : ℕ) → mark v f w x ≡ 0 → Counted v f keep remove (λ u. eqb u x) w w 0
  counted-unmarked w x none =
      counted_skip w x (λ u l e. rw (eqb-true u x e, none) (by-test (other keep remove x) (λ o. rw o) (λ o. rw o)))

  -- it is counted
  pub counted-one : {w w' : List ℕ} (x : ℕ) → x < v → (eqb keep x || eqb remove x) ≡ false → mark v f w x ≢ 0 →
      Remarked v f (λ u m. cond (eqb u x) 0 m) w w' → Counted v f keep remove (λ u. eqb u x) w w' 1
  counted-one {w} {w'} x inside apart has r =
      let fresh : other keep remove x ≡ true = sym (neither (eqb keep x) (eqb remove x)) ∙ ap not apart in
      let now-marked : ℕ → ℕ = λ u. cond (other keep remove u && ltb 0 (mark v f w' u)) 1 0 in
      let here : ℕ → ℕ = λ u. cond (eqb u x) 1 0 in
      record {
        remarked = remarked-as (λ u l. by-test (eqb u x) (λ e. rw (e, eqb-true u x e, fresh)) (λ e. rw e)) r;
        number =
            omega (
              arith,
              sum-same-below (λ u. cond (other keep remove u && ltb 0 (mark v f w u)) 1 0) (λ u. now-marked u + here u) v
                  (λ u l.
                  by-test (eqb u x)
                  (λ e. rw (r.marks u l, e, eqb-true u x e, fresh, lt-ltb 0 (mark v f w x) (omega arith)))
                  (λ e. rw (r.marks u l, e) (sym (add-zero _)))),
              sum-add now-marked here (below v),
              sum-pick (λ u. 1) x v ∙ ap (λ (b : Bool). cond b 1 0) (lt-ltb x v inside),
            );
      }

  -- ---- a face, and a list

  pub face-counted : {w w₁ w₂ w₃ : List ℕ} {p : Face} {a b c : ℕ} (q : Face) → p ≡ q →
      Counted v f keep remove (λ u. eqb u p.a) w w₁ a →
      Counted v f keep remove (λ u. eqb u p.b) w₁ w₂ b →
      Counted v f keep remove (λ u. eqb u p.c) w₂ w₃ c →
      Counted v f keep remove (λ u. holds u q) w w₃ (a + b + c)
  face-counted {w} {w₁} {w₂} {w₃} {p} {a} {b} {c} q read x y z =
      subst (λ (q : Face). Counted v f keep remove (λ u. holds u q) w w₃ (a + b + c)) read (counted-then (counted-then x y) z)

  pub counted_none : (base : ℕ) (w : List ℕ) → Counted v f keep remove (held_in w base 0) w w 0
  unfolding some below
  counted_none base w = record { remarked = remarked-none w; number = zero-add (marked v f w keep remove) }

  pub counted-more : {w₀ w w' : List ℕ} {base i k r s : ℕ} → Next v f w₀ w base i k →
      Counted v f keep remove (held_in w₀ base i) w₀ w r →
      Counted v f keep remove (λ u. holds u (face_at w k)) w w' s →
      Counted v f keep remove (held_in w₀ base (i + 1)) w₀ w' (r + s)
  counted-more next p q = counted-as (λ u. sym (some_next next u)) (counted-then p q)

-- ---- the common neighbours

-- a marked point that is neither of the two is a common neighbour, or still marked when the second point's faces have been counted
split : (e g q : Bool) (s : ℕ) →
    cond ((not e && not g) && ltb 0 s) 1 0
    ≡ cond ((not e && ltb 0 s) && (not g && q)) 1 0 + cond ((not e && not g) && ltb 0 (cond (q && (not e && not g)) 0 s)) 1 0
split true g q s = refl
split false true q s = rw (and-false (ltb 0 s))
split false false true s = rw (and-true (ltb 0 s)) (sym (add-zero _))
split false false false s = rw (and-false (ltb 0 s)) (sym (zero-add _))

-- the first point's faces marked, the second's counted, the first's cleared
pub common-known : {v f : ℕ} {w w₁ w₂ w₃ : List ℕ} {keep remove near n far m r : ℕ} → Tidy v f w →
    Around v f w keep near n → Around v f w remove far m → Marked v f w near n w₁ →
    Counted v f keep remove (held_in w₁ far m) w₁ w₂ r → Cleared v f w₂ near n w₃ →
    (r ≡ common v (live_faces f w) keep remove) × (w₃ ≡ w)
common-known {v} {f} {w} {w₁} {w₂} {w₃} {keep} {remove} {near} {n} {far} {m} {r} t a b marking counted cleared =
    let left : ℕ → ℕ = λ u. cond (other keep remove u && ltb 0 (mark v f w₂ u)) 1 0 in
    let both : ℕ → ℕ = λ u. cond (neighbour (live_faces f w) keep u && neighbour (live_faces f w) remove u) 1 0 in
    let b₁ : Around v f w₁ remove far m = around-but f marking.but (omega arith) far m (inl (omega (arith, b.above))) b in
    let asked : (u : ℕ) → held_in w₁ far m u ≡ ltb 0 (shared (live_faces f w) remove u) =
    λ u.
    some-gathered b₁.gathered u
    ∙ ap (λ (faces : List Face). ltb 0 (shared faces remove u)) (live-faces-but f marking.but (omega arith)) in (
      omega (
        arith,
        counted.number,
        sum-same-below (λ u. cond (other keep remove u && ltb 0 (mark v f w₁ u)) 1 0) (λ u. both u + left u) v
            (λ u l.
            rw (counted.remarked.marks u l, asked u, marks-shared t a marking u l)
            (split (eqb keep u) (eqb remove u) (ltb 0 (shared (live_faces f w) remove u)) (shared (live_faces f w) keep u))),
        sum-add both left (below v),
      ),
      cleared-back t a marking counted.remarked (λ u. cond_same (held_in w₁ far m u && other keep remove u) 0) cleared,
    )
