-- The single call on an order's parts, put back in their place, is what one order leaves.
-- Assumes nothing.
use Prim.Native.Nat.{ℕ, ◌+◌, ◌-◌}
use mathlib.Core.Path.{◌≡◌, refl}
use mathlib.Core.List.{List}
use native.Mathlib.Nat.{add-sub_cancel_left}
use lib.ListN.{take, drop}
use borrow.Rule.Slice.PartMut.{put_mid}
use Rattle.meaning.specs.declared.Answer.{Answer}
use Rattle.meaning.specs.declared.Options.{Options}
use Rattle.meaning.specs.Call.{Lent, lent, input_of}
use Rattle.walking.specs.declared.Engine.TheVariants.{Heap}
use Rattle.thinning.specs.Made.{ThinnedBy}
use Rattle.thinning.specs.Told.{options_of, five_of, by_reason}
use Rattle.orders.specs.declared.Part.{Part}
use Rattle.orders.specs.declared.Order.{Order}
use Rattle.orders.specs.Parts.{replaced}
use Rattle.serving.specs.Desks.{Sources, desk, five_at, three_at}
use Rattle.serving.specs.Clauses.{AsLong, ThinnedInto, OrderDone}
use Rattle.orders.proofs.PartLaws.{part-put}

-- a part's length, as the code has it: its end less its first cell
abbrev pub span : Part → ℕ
span p = (p.from + p.len) - p.from

-- what is lent to the single call
abbrev lent_spans : Order → Lent → Lent
lent_spans o b =
    lent (take (span o.out_points) (drop o.out_points.from b.points)) (take (span o.out_faces) (drop o.out_faces.from b.faces))
    b.u32s b.f32s b.f64s

-- the single call on an order's parts of the inputs, as the code makes it
pub thinned-into : (s : Sources) (o : Order) (b left : Lent) {folds folds' : List ℕ} {options : Options} {r : Answer} →
    options ≡ options_of o.unit o.ratio o.preserve o.limited o.limit →
    ThinnedBy Heap
    (input_of (take (span o.points) (drop o.points.from s.points)) (take (span o.faces) (drop o.faces.from s.faces))
    (take (span o.margin) (drop o.margin.from s.margins)) options b)
    b left folds folds' r →
    ThinnedInto s o b left r
thinned-into s o b left {folds} {folds'} asked thinned =
    record {
      folds = folds;
      folds' = folds';
      thinned =
          rw (
            asked,
            add-sub_cancel_left o.points.from o.points.len,
            add-sub_cancel_left o.faces.from o.faces.len,
            add-sub_cancel_left o.margin.from o.margin.len,
          ) at thinned;
    }

-- and over its parts of the outputs, with its answer told
pub order-done : (s : Sources) (o : Order) (place : ℕ) (b left : Lent) {r : Answer} {answers closed answers' closed' : List ℕ} →
    ThinnedInto s o (lent_spans o b) left r → AsLong left (lent_spans o b) →
    (answers' ≡ replaced (five_at place) (five_of r) answers) × (closed' ≡ replaced (three_at place) (by_reason r) closed) →
    OrderDone s o place (desk b answers closed)
    (desk (lent (put_mid o.out_points.from (span o.out_points) b.points left.points) (put_mid o.out_faces.from (span o.out_faces) b.faces left.faces)
    left.u32s left.f32s left.f64s) answers' closed')
order-done s o place b left {r} into as_long told =
    record {
      answer = r;
      left = left;
      alone = rw (points, faces) at into;
      as_long = rw (points, faces) at as_long;
      points_written = part-put o.out_points b.points left.points;
      faces_written = part-put o.out_faces b.faces left.faces;
      u32s_left = refl;
      f32s_left = refl;
      f64s_left = refl;
      told = told.0;
      told_closed = told.1;
    }
  where
    points : span o.out_points ≡ o.out_points.len
    points = add-sub_cancel_left o.out_points.from o.out_points.len

    faces : span o.out_faces ≡ o.out_faces.len
    faces = add-sub_cancel_left o.out_faces.from o.out_faces.len
