-- Laws on the definitions of specs/: a step of the choice among three points, and what a candidate and a kind say. Assumes nothing.
use Prim.Native.Nat.{◌<◌, ◌^◌}
use mathlib.Core.Path.{◌≡◌, refl, sym, ap, ◌∙◌}
use mathlib.Core.Bool.{Bool, true, false, cond, true≢false}
use lib.IntN.{ℤ}
use lib.Ieee.{Float}
use lib.Signed.{lt_z, mag}
use mir.Syntax.{w64}
use mir.Val.{to_z, of_z}
use mir.ValLaws.{to_z-of_z}
use Rattle.std.specs.Prelude.{Some, None, is_some, Option}
use Rattle.std.specs.Bool.{then_some}
use Rattle.geometry.specs.declared.Point.{Point}
use Rattle.geometry.specs.declared.Quadric.{Quadric}
use Rattle.placement.specs.declared.Kind.{Kind}
use Rattle.placement.specs.declared.Kind.TheVariants.{Free, Border, Margin}
use Rattle.placement.specs.declared.pair.Vertex.{Vertex}
use Rattle.placement.specs.declared.place.Choice.{Choice}
use Rattle.placement.specs.Choices.{kind_number, kind_of}
use Rattle.placement.specs.Errors.{error_at}
use Rattle.placement.specs.Places.{cost_below, cheaper, cheaper_choice, with_error}
use Rattle.placement.specs.Pairs.{pair_place, pair_cost, eligible, pair_candidate}

-- a test on two keys, from the same test on the bits that the machine holds them in
pub keys-compared : (a b : ℤ) {t : Bool} → mag a < 2 ^ 63 → mag b < 2 ^ 63 → lt_z (to_z w64 (of_z w64 a)) (to_z w64 (of_z w64 b)) ≡ t → lt_z a b ≡ t
keys-compared a b ha hb h = rw (to_z-of_z w64 a (record { sfits = ha }), to_z-of_z w64 b (record { sfits = hb })) at h

-- the cheaper of two points, chosen with the errors at hand, comes with its own error
pub cheaper-with-error : (q : Quadric) (a b : Point) → cheaper_choice (with_error q a) (with_error q b) ≡ with_error q (cheaper q a b)
unfolding cheaper
cheaper-with-error q a b = go (cost_below (error_at q b) (error_at q a))
  where
    go : (t : Bool) → cond t (with_error q b) (with_error q a) ≡ with_error q (cond t b a)
    go true = refl
    go false = refl

-- a pair has a candidate exactly where it is eligible
pub eligible-is : (limit : Option Float) (bound : Float) (keep remove : Vertex) → is_some (pair_candidate limit bound keep remove) ≡ eligible limit bound keep remove
unfolding pair_candidate
eligible-is limit bound keep remove = go (eligible limit bound keep remove) _
  where
    go : (t : Bool) (choice : Choice) → is_some (then_some t choice) ≡ t
    go true choice = refl
    go false choice = refl

-- where the candidate is one, the pair is eligible and the candidate has its cost and place; where it is none, the pair is not eligible
pub candidate-eligible : (limit : Option Float) (bound : Float) (keep remove : Vertex) (choice : Choice) → Some choice ≡ pair_candidate limit bound keep remove →
    (eligible limit bound keep remove ≡ true) × (choice.cost ≡ pair_cost bound keep remove) × (choice.place ≡ pair_place bound keep remove)
unfolding pair_candidate
candidate-eligible limit bound keep remove choice is = go (eligible limit bound keep remove) is
  where
    go : (t : Bool) → Some choice ≡ then_some t (record { place = pair_place bound keep remove; cost = pair_cost bound keep remove }) →
        (t ≡ true) × (choice.cost ≡ pair_cost bound keep remove) × (choice.place ≡ pair_place bound keep remove)
    go true same = (refl, (cc), (cc))
    go false other = absurd (true≢false (ap is_some other))

pub candidate-none : (limit : Option Float) (bound : Float) (keep remove : Vertex) → None ≡ pair_candidate limit bound keep remove →
    eligible limit bound keep remove ≡ false
candidate-none limit bound keep remove is = sym (eligible-is limit bound keep remove) ∙ ap is_some (sym is)

-- the kind that is stored comes back
pub kind-back : (k : Kind) → kind_of (kind_number k) ≡ k
kind-back Free = refl
kind-back Border = refl
kind-back Margin = refl
