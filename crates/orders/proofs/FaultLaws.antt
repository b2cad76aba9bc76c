-- A call is refused as a whole exactly when document 02 says so.
-- Assumes nothing.
use Prim.Native.Nat.{ℕ, ◌*◌, ◌<◌}
use mathlib.Core.Path.{◌≡◌, subst}
use mathlib.Core.Logic.{◌≢◌, inl, inr}
use mathlib.Core.Bool.{true, false, ◌||◌}
use mathlib.Core.List.{List}
use native.Mathlib.Nat.{not-le_of_lt, lt_irrefl, lt_trans}
use lib.Dec.{ltb}
use lib.ListN.{length}
use borrow.Author.Tests.{ltb-true}
use Rattle.lists.specs.Lists.{some, below}
use Rattle.lists.proofs.TestLaws as tests
use Rattle.lists.proofs.TestLaws.{by-test, either-of}
use Rattle.orders.specs.declared.Order.{Order}
use Rattle.orders.specs.declared.Buffers.{Buffers}
use Rattle.orders.specs.Orders.{order_at}
use Rattle.orders.specs.Refused.{outside, misplaced, share, clash, clashes, bad_order, refused, PartOutside, Faulty, over-64, answers-short, closed-short, part-outside, cell_shared}
use Rattle.orders.proofs.PartLaws.{shared, shared-cell}
use Rattle.orders.proofs.FineLaws.{one_below, AllWithin, fine-count, fine-within, fine-apart}

-- a part can't lie outside its buffer and within it
not-both : (cells : Buffers) (o : Order) → AllWithin cells o → ¬ PartOutside cells o
not-both cells o within (inl out) = not-le_of_lt out within.0
not-both cells o within (inr (inl out)) = not-le_of_lt out within.1
not-both cells o within (inr (inr (inl out))) = not-le_of_lt out within.2
not-both cells o within (inr (inr (inr (inl out)))) = not-le_of_lt out within.3
not-both cells o within (inr (inr (inr (inr out)))) = not-le_of_lt out within.4

module _ (orders : List Order) (cells : Buffers) where
  -- a fault, where the call isn't refused
  no-fault : refused orders cells ≡ false → ¬ Faulty orders cells
  no-fault fine (over-64 many) = not-le_of_lt many (fine-count orders cells fine).0
  no-fault fine (answers-short short) = not-le_of_lt short (fine-count orders cells fine).1
  no-fault fine (closed-short short) = not-le_of_lt short (fine-count orders cells fine).2
  no-fault fine (part-outside {k} less out) = not-both cells (order_at orders k) (fine-within orders cells fine k less) out
  no-fault fine (cell_shared {j} {k} {c} less-j less-k other (inl both)) =
      tests.clash (shared (order_at orders j).out_points (order_at orders k).out_points c both.0 both.1) (fine-apart orders cells fine j k less-j less-k other).0
  no-fault fine (cell_shared {j} {k} {c} less-j less-k other (inr both)) =
      tests.clash (shared (order_at orders j).out_faces (order_at orders k).out_faces c both.0 both.1) (fine-apart orders cells fine j k less-j less-k other).1

  -- the fault of a bad order: a part outside, or a cell shared with an order before it
  misplaced-fault : (k : ℕ) → k < length orders → misplaced cells (order_at orders k) ≡ true → Faulty orders cells
  misplaced-fault k less bad = part-outside less (which bad)
    where
      o : Order
      o = order_at orders k

      which : misplaced cells o ≡ true → PartOutside cells o
      which bad =
          let points = outside o.points cells.points in
          let faces = outside o.faces cells.faces in
          let margin = outside o.margin cells.margins in
          let points_written = outside o.out_points cells.out_points in
          let faces_written = outside o.out_faces cells.out_faces in
          either-of (points || faces || margin || points_written) faces_written bad
          (λ four. either-of (points || faces || margin) points_written four
          (λ three. either-of (points || faces) margin three
          (λ two. either-of points faces two (λ t. inl (ltb-true _ _ t)) (λ t. inr (inl (ltb-true _ _ t))))
          (λ t. inr (inr (inl (ltb-true _ _ t)))))
          (λ t. inr (inr (inr (inl (ltb-true _ _ t))))))
          (λ t. inr (inr (inr (inr (ltb-true _ _ t)))))

  clash-fault : (k : ℕ) → k < length orders → clashes orders k ≡ true → Faulty orders cells
  clash-fault k less found =
      let one = one_below (λ j. clash (order_at orders j) (order_at orders k)) k found in
      let j = one.0 in
      let earlier = one.1 in
      let a = order_at orders j in
      let b = order_at orders k in
      let other : j ≢ k = λ same. lt_irrefl k (subst (λ (m : ℕ). m < k) same earlier) in
      either-of (share a.out_points b.out_points) (share a.out_faces b.out_faces) one.2
      (λ points. let c = shared-cell a.out_points b.out_points points in cell_shared (lt_trans earlier less) less other (inl (c.1, c.2)))
      (λ faces. let c = shared-cell a.out_faces b.out_faces faces in cell_shared (lt_trans earlier less) less other (inr (c.1, c.2)))

  fault : refused orders cells ≡ true → Faulty orders cells
  unfolding refused
  fault bad =
      let many = ltb 64 (length orders) in
      let short = ltb cells.answers (5 * length orders) in
      let short-closed = ltb cells.closed (3 * length orders) in
      either-of (many || short || short-closed) (some (bad_order orders cells) (below (length orders))) bad
      (λ counted. either-of (many || short) short-closed counted
      (λ two. either-of many short two (λ t. over-64 (ltb-true _ _ t)) (λ t. answers-short (ltb-true _ _ t)))
      (λ t. closed-short (ltb-true _ _ t)))
      (λ found. let one = one_below (bad_order orders cells) (length orders) found in
      either-of (misplaced cells (order_at orders one.0)) (clashes orders one.0) one.2 (misplaced-fault one.0 one.1) (clash-fault one.0 one.1))

  pub refused-exactly-when : (Faulty orders cells → refused orders cells ≡ true) × (refused orders cells ≡ true → Faulty orders cells)
  refused-exactly-when = (λ faulty. by-test (refused orders cells) (λ bad. bad) (λ fine. absurd (no-fault fine faulty)), fault)
