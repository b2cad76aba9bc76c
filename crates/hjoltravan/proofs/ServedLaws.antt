-- Orders that are done one after another, each as a call alone, are served: no order touches what another reads or writes, and the work memory is zero as far
-- as the longest stated part that was worked in.
-- Assumes nothing.
use Prim.Native.Nat.{ℕ, suc, ◌+◌, ◌*◌, ◌≤◌, ◌<◌}
use mathlib.Core.Path.{◌≡◌, refl, sym, ap, subst, ◌∙◌}
use mathlib.Core.Logic.{◌≢◌, inl, inr}
use mathlib.Core.Bool.{Bool, true, false, ◌&&◌, false≢true}
use mathlib.Core.List.{List}
use native.Mathlib.Omega.{arith}
use native.Mathlib.Nat.{not-suc-le-zero, lt_irrefl, le-add_right, mul-suc}
use lib.Dec.{ltb, leb}
use lib.ListN.{length, get_or, drop}
use Rattle.std.proofs.Common.{add-one}
use Rattle.std.proofs.lemmas.List.{get_or_default}
use borrow.Author.Tests.{ltb-true, ltb-false, leb-false}
use Rattle.geometry.specs.Constants.{nought}
use Rattle.meaning.specs.Input.{Input}
use Rattle.meaning.specs.Outcome.{outcome}
use Rattle.meaning.specs.Call.{lent, left_as, Answered}
use Rattle.walking.specs.declared.Engine.TheVariants.{Heap}
use Rattle.thinning.specs.Told.{five_of, by_reason}
use Rattle.orders.specs.declared.Part.{Part}
use Rattle.orders.specs.declared.Order.{Order}
use Rattle.orders.specs.Parts.{cells_of}
use Rattle.orders.specs.Orders.{no_order, order_at}
use Rattle.serving.specs.Desks.{Sources, Desk, buffers_of, five_at, three_at, lent_to, input_for}
use Rattle.orders.specs.Refused.{refused}
use Rattle.serving.specs.Clauses.{AsLong, Fits, OrderDone, OrdersDone, none_yet, one_more}
use Rattle.orders.proofs.FineLaws.{fine-apart}
use Rattle.serving.proofs.FineLaws.{fine-fits}
use Rattle.orders.proofs.PartLaws.{Beside, length-cells}
use Rattle.serving.proofs.ClearLaws.{left-again}
use Rattle.orders.proofs.OthersLaws.{WrittenAt, written, in_a_row}
use Rattle.lists.proofs.DropLaws.{rest_more}
use Rattle.lists.proofs.TestLaws.{by-test, clash}
use Rattle.hjoltravan.specs.Calls.{Called}
use Rattle.hjoltravan.specs.Orders.{input_at, stated_u32s, stated_f32s, stated_f64s, longest, work_after, lent_at, DoneAlone, has, ElseSame, RestSame, Served, CalledForOrders}
use Rattle.hjoltravan.proofs.CallLaws.{called, called-with-folds}

-- a cell that a part doesn't have lies beside it
else-beside : (p : Part) (c : ℕ) → has p c ≡ false → Beside p c
else-beside p c none =
    by-test (leb p.from c)
    (λ from. inr (ltb-false c (p.from + p.len) (second-fails (leb p.from c) (ltb c (p.from + p.len)) from none)))
    (λ under. inl (leb-false p.from c under))
  where
    second-fails : (a b : Bool) → a ≡ true → (a && b) ≡ false → b ≡ false
    second-fails true b first both = both
    second-fails false b first both = absurd (false≢true first)

-- what lies after a part of a list in a row, and after those before it
rest-on : {A : Type 0} (size k : ℕ) {old d now : List A} → RestSame (size * k) old d → length now ≡ length d → drop (size * k + size) now ≡ drop (size * k + size) d →
    RestSame (size * suc k) old now
rest-on size k {old} {d} {now} so_far as_long rest =
    record {
      as_long = as_long ∙ so_far.as_long;
      same = rw (mul-suc size k) (rest ∙ rest_more d old (size * k) (size * k + size) (le-add_right (size * k) size) so_far.same);
    }

module _ (s : Sources) (orders : List Order) (before : Desk) (fine : refused orders (buffers_of s before) ≡ false) where
  abbrev input : ℕ → Input
  input = input_at s orders before

  abbrev points_part : ℕ → Part
  points_part j = (order_at orders j).out_points

  abbrev faces_part : ℕ → Part
  faces_part j = (order_at orders j).out_faces

  -- what holds once the first k orders are done
  pub record SoFar (k : ℕ) (d : Desk) : Type 0 where
    pub as_long : AsLong d.buffers before.buffers
    pub each : (j : ℕ) → j < k → DoneAlone s orders before d j
    pub points-ahead : (j : ℕ) → k ≤ j → j < length orders → cells_of (points_part j) d.buffers.points ≡ cells_of (points_part j) before.buffers.points
    pub faces-ahead : (j : ℕ) → k ≤ j → j < length orders → cells_of (faces_part j) d.buffers.faces ≡ cells_of (faces_part j) before.buffers.faces
    pub points_else : ElseSame (λ o. o.out_points) orders before.buffers.points d.buffers.points
    pub faces_else : ElseSame (λ o. o.out_faces) orders before.buffers.faces d.buffers.faces
    pub u32s_left : d.buffers.u32s ≡ (work_after input k before.buffers).u32s
    pub f32s_left : d.buffers.f32s ≡ (work_after input k before.buffers).f32s
    pub f64s_left : d.buffers.f64s ≡ (work_after input k before.buffers).f64s
    pub answers_else : RestSame (5 * k) before.answers d.answers
    pub closed_else : RestSame (3 * k) before.closed d.closed

  -- before the first
  nothing-done : SoFar 0 before
  unfolding longest
  nothing-done =
      record {
        as_long = record { points = refl; faces = refl; u32s = refl; f32s = refl; f64s = refl };
        each = λ j less. absurd (not-suc-le-zero less);
        points-ahead = λ j up less. refl;
        faces-ahead = λ j up less. refl;
        points_else = record { as_long = refl; same = λ past c none. refl };
        faces_else = record { as_long = refl; same = λ past c none. refl };
        u32s_left = refl;
        f32s_left = refl;
        f64s_left = refl;
        answers_else = record { as_long = refl; same = refl };
        closed_else = record { as_long = refl; same = refl };
      }

  -- ---- one order more
  module _ {k : ℕ} {d d' : Desk} (less : k < length orders) (so_far : SoFar k d) (done : OrderDone s (order_at orders k) k d d') where
    abbrev o : Order
    o = order_at orders k

    -- every order fits while the buffers are as long as they were
    fits : (j : ℕ) → j < length orders → Fits s (order_at orders j) j d
    fits j less-j = fine-fits s orders before fine j less-j d so_far.as_long so_far.answers_else.as_long so_far.closed_else.as_long

    -- its input is the one that it has alone
    same-input : input_for s d.buffers o ≡ input k
    same-input t =
        record {
          points = cells_of o.points s.points;
          faces = cells_of o.faces s.faces;
          margin = cells_of o.margin s.margins;
          rooms =
              record {
                points = length (so_far.points-ahead k (omega arith) less t);
                faces = length (so_far.faces-ahead k (omega arith) less t);
                u32s = so_far.as_long.u32s t;
                f32s = so_far.as_long.f32s t;
                f64s = so_far.as_long.f64s t;
              };
          options = (input k).options;
        }

    -- and so is what it is lent
    same-lent : lent_to o d.buffers ≡ lent_at s orders before k
    same-lent t =
        lent (so_far.points-ahead k (omega arith) less t) (so_far.faces-ahead k (omega arith) less t) (so_far.u32s_left t) (so_far.f32s_left t) (so_far.f64s_left t)

    -- the four lists of which it writes a part of its own
    points-written : WrittenAt points_part (length orders) k d.buffers.points d'.buffers.points done.left.points
    points-written =
        written nought points_part less (λ j less-j. (fits j less-j).points_written) (λ j less-j other. (fine-apart orders (buffers_of s before) fine k j less less-j (λ same. other (sym same))).0)
        (done.as_long.points ∙ length-cells (points_part k) d.buffers.points (fits k less).points_written) done.points_written

    faces-written : WrittenAt faces_part (length orders) k d.buffers.faces d'.buffers.faces done.left.faces
    faces-written =
        written 0 faces_part less (λ j less-j. (fits j less-j).faces_written) (λ j less-j other. (fine-apart orders (buffers_of s before) fine k j less less-j (λ same. other (sym same))).1)
        (done.as_long.faces ∙ length-cells (faces_part k) d.buffers.faces (fits k less).faces_written) done.faces_written

    answer-written : WrittenAt five_at (length orders) k d.answers d'.answers (five_of done.answer)
    answer-written =
        written 0 five_at less (λ j less-j. (fits j less-j).answer) (λ j less-j other. in_a_row 5 k j (λ same. other (sym same))) refl done.told

    closed-written : WrittenAt three_at (length orders) k d.closed d'.closed (by_reason done.answer)
    closed-written =
        written 0 three_at less (λ j less-j. (fits j less-j).closed) (λ j less-j other. in_a_row 3 k j (λ same. other (sym same))) refl done.told_closed

    -- an order that was done before is still done so
    still-done : (j : ℕ) → j < k → DoneAlone s orders before d' j
    still-done j less-j =
        let here : j < length orders = omega (arith, less-j, less) in
        let other : j ≢ k = λ same. lt_irrefl k (subst (λ (m : ℕ). m < k) same less-j) in
        let work = work_after input (suc j) before.buffers in
        coe 1 0 (t.
        Called Heap (input j) (lent_at s orders before j)
        (lent (points-written.others j here other t) (faces-written.others j here other t) work.u32s work.f32s work.f64s)
        (answer-written.others j here other t) (closed-written.others j here other t))
        (so_far.each j less-j)

    -- the work memory, where the single call has left it
    abbrev alone : Answered (input_for s d.buffers o) (lent_to o d.buffers) done.left done.answer
    alone = done.alone.thinned.thinned.answered

    work-after : {A : Type 0} (nil : A) (stated : Input → ℕ) (old : List A) {now left : List A} → now ≡ left_as true (longest stated input k) nil old →
        left ≡ left_as (outcome (input_for s d.buffers o)).worked (stated (input_for s d.buffers o)) nil now → left ≡ left_as true (longest stated input (suc k)) nil old
    unfolding longest
    work-after nil stated old so_far left-now =
        left-now ∙ (λ t. left_as (outcome (same-input t)).worked (stated (same-input t)) nil (so_far t))
        ∙ left-again nil (outcome (input k)).worked (longest stated input k) (stated (input k)) old

    u32s-after : done.left.u32s ≡ (work_after input (suc k) before.buffers).u32s
    u32s-after = work-after 0 stated_u32s before.buffers.u32s so_far.u32s_left alone.u32s_left

    f32s-after : done.left.f32s ≡ (work_after input (suc k) before.buffers).f32s
    f32s-after = work-after nought stated_f32s before.buffers.f32s so_far.f32s_left alone.f32s_left

    f64s-after : done.left.f64s ≡ (work_after input (suc k) before.buffers).f64s
    f64s-after = work-after nought stated_f64s before.buffers.f64s so_far.f64s_left alone.f64s_left

    -- the order itself is done alone
    now-done : DoneAlone s orders before d' k
    now-done =
        coe 0 1 (t.
        Called Heap (same-input t) (same-lent t)
        (lent (sym points-written.own t) (sym faces-written.own t) (u32s-after t) (f32s-after t) (f64s-after t))
        (sym answer-written.own t) (sym closed-written.own t))
        (called (called-with-folds done.alone.thinned refl refl))

    one-more-done : SoFar (suc k) d'
    one-more-done =
        record {
          as_long =
              record {
                points = points-written.as_long ∙ so_far.as_long.points;
                faces = faces-written.as_long ∙ so_far.as_long.faces;
                u32s = ap length done.u32s_left ∙ done.as_long.u32s ∙ so_far.as_long.u32s;
                f32s = ap length done.f32s_left ∙ done.as_long.f32s ∙ so_far.as_long.f32s;
                f64s = ap length done.f64s_left ∙ done.as_long.f64s ∙ so_far.as_long.f64s;
              };
          each = λ j under. by-test (ltb j k) (λ (earlier : ltb j k ≡ true). still-done j (ltb-true j k earlier))
              (λ (not-Earlier : ltb j k ≡ false). let same : j ≡ k = omega (arith, under, ltb-false j k not-Earlier) in subst (DoneAlone s orders before d') (sym same) now-done);
          points-ahead = λ j up here. points-written.others j here (λ same. lt_irrefl k (subst (λ (m : ℕ). k < m) same up)) ∙ so_far.points-ahead j (omega (arith, up)) here;
          faces-ahead = λ j up here. faces-written.others j here (λ same. lt_irrefl k (subst (λ (m : ℕ). k < m) same up)) ∙ so_far.faces-ahead j (omega (arith, up)) here;
          points_else =
              record {
                as_long = points-written.as_long ∙ so_far.points_else.as_long;
                same = λ past c none. points-written.beside past c (else-beside (points_part k) c (none k less)) ∙ so_far.points_else.same past c none;
              };
          faces_else =
              record {
                as_long = faces-written.as_long ∙ so_far.faces_else.as_long;
                same = λ past c none. faces-written.beside past c (else-beside (faces_part k) c (none k less)) ∙ so_far.faces_else.same past c none;
              };
          u32s_left = done.u32s_left ∙ u32s-after;
          f32s_left = done.f32s_left ∙ f32s-after;
          f64s_left = done.f64s_left ∙ f64s-after;
          answers_else = rest-on 5 k so_far.answers_else answer-written.as_long answer-written.rest;
          closed_else = rest-on 3 k so_far.closed_else closed-written.as_long closed-written.rest;
        }

  -- ---- all of them
  so-far-done : {k : ℕ} {d : Desk} → k ≤ length orders → OrdersDone s orders before k d → SoFar k d
  so-far-done few none_yet = nothing-done
  so-far-done few (one_more done last) = one-more-done few (so-far-done (omega (arith, few)) done) last

  all-served : {after : Desk} → OrdersDone s orders before (length orders) after → Served s orders before after
  all-served done =
      let all = so-far-done (omega arith) done in
      record {
        each = all.each;
        points_else = all.points_else;
        faces_else = all.faces_else;
        u32s_left = all.u32s_left;
        f32s_left = all.f32s_left;
        f64s_left = all.f64s_left;
        answers_else = all.answers_else;
        closed_else = all.closed_else;
      }

-- ---- the walk over the orders: an order that is read with any other default is the one at its place

-- after the first k orders the next one fits
pub ready : (orders : List Order) (s : Sources) {before d : Desk} {k : ℕ} (past : Order) → refused orders (buffers_of s before) ≡ false → k < length orders →
    OrdersDone s orders before k d → Fits s (get_or orders k past) k d
ready orders s {before} {d} {k} past fine less done =
    let so_far = so-far-done s orders before fine (omega (arith, less)) done in
    rw (get_or_default orders k past no_order less) (fine-fits s orders before fine k less d so_far.as_long so_far.answers_else.as_long so_far.closed_else.as_long)

-- and once it is done, one order more is
pub ready-next : (orders : List Order) (s : Sources) {before d d' : Desk} {k : ℕ} (past : Order) → k < length orders → OrdersDone s orders before k d →
    OrderDone s (get_or orders k past) k d d' → OrdersDone s orders before (k + 1) d'
ready-next orders s {k = k} past less done last =
    rw (add-one k) (one_more done (rw (get_or_default orders k past no_order less) at last))

-- ---- the two ends of a call
pub called-turned-away : (orders : List Order) (s : Sources) (before : Desk) → refused orders (buffers_of s before) ≡ true → CalledForOrders orders s before before 41
called-turned-away orders s before bad = record { turned_away = λ _. (refl, refl); served = λ fine. clash bad fine }

pub called-served : (orders : List Order) (s : Sources) {before after : Desk} → refused orders (buffers_of s before) ≡ false → OrdersDone s orders before (length orders) after →
    CalledForOrders orders s before after 0
called-served orders s {before} fine done = record { turned_away = λ bad. clash bad fine; served = λ _. (refl, all-served s orders before fine done) }
