-- `bits::cut::cut` is Rust's `as u64` for every float. In the range the standard library cuts; below it, and for a NaN, the definition says 0, and
-- above it the largest u64.
use Rattle.std.proofs.Common.{◌≡◌, ◌-◌, ◌*◌, ◌/◌, ◌^◌, ◌≤◌, true, false, T, pos, sym, refl, subst, true≢false, le-div_iff_mul-le, arith, ltb-false}
use lib.Ieee.{Float, nan, inf, fin, up, down, lt, neg, of_bits}
use lib.Ieee.Fits.{down_pos}
use Rattle.bits.specs.Cut.{cut}
use Rattle.bits.proofs.cut.cut.Goals as goal

-- a NaN, and what is at most -1, is cut to 0
too-low : (x : Float) → lt (fin true 1 (pos 0)) x ≡ false → 0 ≡ cut x
unfolding lt cut
too-low nan h = refl
too-low (inf true) h = refl
too-low (inf false) h = absurd (true≢false h)
too-low (fin true m e) h = refl
too-low (fin false m e) h = absurd (omega (arith, ltb-false, down_pos e))

-- what is at least 2^64 is cut to the largest u64
too-high : (x : Float) → lt (fin true 1 (pos 0)) x ≡ true → lt x (fin false 1 (pos 64)) ≡ false → 2 ^ 64 - 1 ≡ cut x
unfolding lt cut
too-high nan l h = absurd (true≢false (sym l))
too-high (inf true) l h = absurd (true≢false (sym l))
too-high (inf false) l h = refl
too-high (fin true m e) l h = absurd (omega (arith, ltb-false, down_pos e))
too-high (fin false m e) l h =
    let large : 2 ^ 64 ≤ m * up e / down e = (le-div_iff_mul-le (down_pos e)).1 (omega (arith, ltb-false)) in
    omega arith

pub truncating_f32_to_u64-requires : goal.truncating_f32_to_u64-requires
unfolding neg of_bits
truncating_f32_to_u64-requires c = record { lower_bound = subst T (sym c.if-x.true) tt; upper_bound = subst T (sym c.if-x-2.true) tt }

pub returns-then-x-2 : goal.returns-then-x-2
unfolding cut
returns-then-x-2 c = c.truncating_f32_to_u64.ensures

pub returns-then-x : goal.returns-then-x
unfolding neg of_bits
returns-then-x c = too-high c.args.x c.if-x.true c.if-x-2.false

pub returns : goal.returns
unfolding neg of_bits
returns c = too-low c.args.x c.if-x.false
