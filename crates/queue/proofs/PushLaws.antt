-- An entry is put in: what becomes of the entries, of the open pairs, and of what the entries know.
-- Assumes nothing.
use Prim.Native.Nat.{ℕ, ◌+◌, ◌<◌}
use native.Mathlib.Nat.{add-zero, le_refl}
use native.Mathlib.Numerals.{add-one}
use native.Mathlib.Omega.{arith}
use mathlib.Core.Path.{◌≡◌, refl, sym, ap, ap₂, subst, ◌∙◌}
use mathlib.Core.List.{List, [], ◌∷◌}
use mathlib.Core.Bool.{true}
use mathlib.Mathlib.Data.Bool.Basic.{and_intro}
use lib.Ieee.{Float}
use borrow.Author.Tests.{eq-eqb}
use Rattle.geometry.specs.declared.Point.{Point}
use Rattle.placement.specs.Pairs.{pair_place, pair_cost}
use Rattle.walk.specs.declared.Pair.{Pair}
use Rattle.walk.specs.Pairs.{pair_of}
use Rattle.lists.specs.Lists.{sum}
use Rattle.lists.proofs.SumLaws.{sum-append}
use Rattle.lists.proofs.BelowLaws.{sum_below, sum-same-below}
use Rattle.memory.specs.declared.entries.Entry.{Entry}
use Rattle.memory.specs.Points.{vertex_at}
use Rattle.memory.specs.Entries.{entry_in, stamp, EntriesOnly}
use Rattle.memory.proofs.EntryLaws.{only_then, room-only}
use Rattle.queue.specs.State.{open_in}
use Rattle.queue.specs.Stored.{stamps_of, entries_in, Requeued}
use Rattle.queue.specs.Clauses.Order.{filled, Sifted}
use Rattle.queue.specs.Clauses.Queued.{Named, QueueNamed, is_present, EntryKept, Kept}
use Rattle.queue.specs.Clauses.Changes.{RoomMade, entry_of, Pushed}
use Rattle.queue.proofs.HeapLaws.{by-same}
use Rattle.queue.proofs.HoleLaws.{filled-here, filled-other, entries-sum}
use Rattle.queue.proofs.PresentLaws.{stamp-only, kept-only, named-were, weighed, open-sum, weighed-were}
use Rattle.queue.proofs.TakeLaws.{old-gone-open}

-- the entry of a pair with the stamps of before
pub entry-only : {v f : ℕ} {w : List ℕ} {p q : List Float} {w' : List ℕ} {p' q' : List Float} {keep remove : ℕ} (cost : Float) (place : Point) →
    EntriesOnly v f w p q w' p' q' → keep < v → remove < v → entry_of v f w' keep remove cost place ≡ entry_of v f w keep remove cost place
entry-only {keep = keep} {remove = remove} cost place only k r = rw (stamp-only only keep k, stamp-only only remove r)

module _ {v f : ℕ} {w : List ℕ} {p q : List Float} {n keep remove : ℕ} {cost : Float} {place : Point} {w₁ : List ℕ} {p₁ q₁ : List Float} {count : ℕ} {e : Entry}
    {w' : List ℕ} {p' q' : List Float} (named : QueueNamed v f w p q n) (points : (keep < v) × (remove < v)) (made : RoomMade v f w p q n w₁ p₁ q₁ count)
    (is : e ≡ entry_of v f w keep remove cost place) (sifted : Sifted v f (count + 1) 0 w₁ p₁ q₁ count e w' p' q') where
  whole : EntriesOnly v f w p q w' p' q'
  whole = only_then made.fewer.only sifted.only

  -- its points are below v, and it is current
  e-named : Named v e
  e-named = subst (λ (x : Entry). Named v x) (sym is) points

  e-present : is_present v f w e ≡ true
  e-present = rw is (and_intro (eq-eqb (stamp v f w keep) (stamp v f w keep) refl) (eq-eqb (stamp v f w remove) (stamp v f w remove) refl))

  -- ---- the entries

  -- weighed: those that were there, and it
  entries-weigh : (g : Entry → ℕ) → sum g (entries_in v f w' p' q' (count + 1)) ≡ sum g (entries_in v f w₁ p₁ q₁ count) + g e
  entries-weigh g =
      let es = entry_in v f w₁ p₁ q₁ in
      entries-sum v f w' p' q' (count + 1) g
      ∙ sifted.shuffled.sums g
      ∙ rw add-one (sum_below (λ i. g (filled es count e i)) count)
      ∙ ap₂ ◌+◌
      (sum-same-below _ _ count (λ i l. ap g (filled-other es count e i (omega arith))) ∙ sym (entries-sum v f w₁ p₁ q₁ count g))
      (ap g (filled-here es count e))

  -- each is one that was there, or it
  one_of : (P : Entry → Type 0) → P e → ((j : ℕ) → j < n → P (entry_in v f w p q j)) → (i : ℕ) → i < count + 1 → P (entry_in v f w' p' q' i)
  one_of P new old i l =
      let es = entry_in v f w₁ p₁ q₁ in
      let (j, m, same) = sifted.shuffled.from i l in
      by-same j count
      (λ d. subst P (sym (same ∙ ap (filled es count e) d ∙ filled-here es count e)) new)
      (λ d.
      let low : j < count = omega arith in
      let (k, o, there) = made.fewer.were j low in
      subst P (sym (same ∙ filled-other es count e j d ∙ there)) (old k o))

  new-named : QueueNamed v f w' p' q' (count + 1)
  new-named = one_of (λ x. Named v x) e-named named

  pushed-entries : Requeued (stamps_of v f w) (entries_in v f w p q n) (entry_of v f w keep remove cost place ∷ []) (entries_in v f w' p' q' (count + 1))
  unfolding sum
  pushed-entries = record {
    thrown = made.thrown;
    stayed = entries_in v f w₁ p₁ q₁ count;
    old = made.old;
    were = made.fewer.bag;
    are = record {
      sums = λ g.
          entries-weigh g
          ∙ ap (λ (x : Entry). sum g (entries_in v f w₁ p₁ q₁ count) + g x) is
          ∙ ap (λ (k : ℕ). sum g (entries_in v f w₁ p₁ q₁ count) + k) (sym (add-zero _))
          ∙ sym (sum-append g (entries_in v f w₁ p₁ q₁ count) (entry_of v f w keep remove cost place ∷ []));
    };
  }

  -- ---- the open pairs

  open_more : (g : Pair → ℕ) → sum g (open_in v f w' (count + 1)) ≡ sum g (open_in v f w n) + g (pair_of keep remove)
  open_more g =
      let itself : weighed v f w g e ≡ g (pair_of keep remove) = rw e-present (ap (λ (x : Entry). g x.pair) is) in
      let still = named-were made.fewer.only made.fewer.were named in
      omega (
        arith,
        itself,
        open-sum v f w' p' q' (count + 1) g,
        weighed-were whole new-named g,
        entries-weigh (weighed v f w g),
        open-sum v f w₁ p₁ q₁ count g,
        weighed-were made.fewer.only still g,
        old-gone-open made.fewer named made.old g,
      )

  pub entry-pushed : Pushed v f w p q n keep remove cost place w' p' q' (count + 1)
  entry-pushed = record {
    only = whole;
    queue = record { enough = room-only sifted.only made.fewer.queue.enough; few = omega (arith, made.free); ordered = sifted.ordered };
    sums = open_more;
    requeued = pushed-entries;
  }

  -- ---- what the entries know

  pub entry_kept : (bound : Float) → Kept v f w p q n bound →
      cost ≡ pair_cost bound (vertex_at v f w p q keep) (vertex_at v f w p q remove) →
      place ≡ pair_place bound (vertex_at v f w p q keep) (vertex_at v f w p q remove) → Kept v f w' p' q' (count + 1) bound
  entry_kept bound kept cost-is place_is =
      let itself : EntryKept v f w p q bound e = rw is
      (record {
        named = points;
        older = (le_refl _, le_refl _);
        cost = λ now. cost-is;
        place = λ now. place_is;
      }) in
      one_of (λ x. EntryKept v f w' p' q' bound x) (kept-only whole bound e itself) (λ j l. kept-only whole bound (entry_in v f w p q j) (kept j l))
