-- The statements of the C functions are tight: any two outcomes that one of them allows coincide, in the answer, in every lent cell, in the fold list
-- and in the file.
-- Assumes nothing.
use Prim.Native.Nat.{ℕ, ◌<◌}
use mathlib.Core.Path.{◌≡◌, refl, sym, ◌∙◌}
use mathlib.Core.List.{List}
use mathlib.Core.Bool.{true, false}
use lib.ListN.{length}
use lib.IntN.{ℤ}
use lib.Ieee.{Float}
use Rattle.bits.specs.Root.{root_bits}
use Rattle.bits.specs.Narrow.{narrow_bits}
use Rattle.bits.specs.Order.{order_key}
use Rattle.meaning.specs.Input.{Input}
use Rattle.meaning.specs.Call.{Lent, lent}
use Rattle.walking.specs.declared.Engine.{Engine}
use Rattle.meaning.proofs.Determined.{determined-answer, determined}
use Rattle.scanwriter.proofs.Determined.{writing-determined}
use Rattle.geometry.specs.Constants.{nought}
use Rattle.lists.proofs.TestLaws.{by-test}
use Rattle.orders.specs.declared.Order.{Order}
use Rattle.orders.specs.Orders.{order_at}
use Rattle.serving.specs.Desks.{Sources, Desk, desk, buffers_of}
use Rattle.orders.specs.Refused.{refused}
use Rattle.hjoltravan.specs.Calls.{Called, CalledWithFolds, CalledToWrite}
use Rattle.hjoltravan.specs.Orders.{input_at, Served, CalledForOrders}
use Rattle.hjoltravan.proofs.CoveredLaws.{covered, covered-row}
use Rattle.hjoltravan.proofs.Isolated.{got_at, same-calls}

-- hjoltravan_thin and hjoltravan_thin_plain: the lent buffers, the five cells and the three
pub called-determined : (i : Input) {engine : Engine} {before after₁ after₂ : Lent} {five₁ five₂ closed₁ closed₂ : List ℕ} →
    Called engine i before after₁ five₁ closed₁ → Called engine i before after₂ five₂ closed₂ → (after₁ ≡ after₂) × (five₁ ≡ five₂) × (closed₁ ≡ closed₂)
called-determined i a b = ((determined-answer i a.left b.left).0, a.told ∙ sym b.told, a.told_closed ∙ sym b.told_closed)

-- hjoltravan_thin_folds: the fold list too
pub called-with-folds-determined : (i : Input) {engine : Engine} {before after₁ after₂ : Lent} {folds folds₁ folds₂ five₁ five₂ closed₁ closed₂ : List ℕ} →
    CalledWithFolds engine i before after₁ folds folds₁ five₁ closed₁ → CalledWithFolds engine i before after₂ folds folds₂ five₂ closed₂ →
    (after₁ ≡ after₂) × (folds₁ ≡ folds₂) × (five₁ ≡ five₂) × (closed₁ ≡ closed₂)
called-with-folds-determined i a b =
    let same = determined i a.left.thinned b.left.thinned in
    (same.0, same.2, a.told ∙ sym b.told, a.told_closed ∙ sym b.told_closed)

-- hjoltravan_write_scan: the buffer and the three cells
pub called-to-write-determined : (unit : ℕ) (points : List Float) (faces old : List ℕ) {new₁ new₂ three₁ three₂ : List ℕ} →
    CalledToWrite unit points faces old new₁ three₁ → CalledToWrite unit points faces old new₂ three₂ → (new₁ ≡ new₂) × (three₁ ≡ three₂)
called-to-write-determined unit points faces old a b = ((writing-determined unit points faces old a.left b.left).1, a.told ∙ sym b.told)

-- of two calls that serve every order
served-determined : (orders : List Order) (s : Sources) (before : Desk) {after₁ after₂ : Desk} → Served s orders before after₁ → Served s orders before after₂ → after₁ ≡ after₂
served-determined orders s before {after₁} {after₂} a b t =
    desk
    (lent (points t) (faces t) ((a.u32s_left ∙ sym b.u32s_left) t) ((a.f32s_left ∙ sym b.f32s_left) t) ((a.f64s_left ∙ sym b.f64s_left) t))
    (answers t) (closed t)
  where
    -- what each order got is determined by its own statement
    got : (k : ℕ) → k < length orders → got_at orders after₁ k ≡ got_at orders after₂ k
    got k less = same-calls {i = input_at s orders before k} refl refl refl (a.each k less) (b.each k less)

    points : after₁.buffers.points ≡ after₂.buffers.points
    points =
        covered nought (λ k. (order_at orders k).out_points) (length orders) after₁.buffers.points after₂.buffers.points
        (a.points_else.as_long ∙ sym b.points_else.as_long) (λ k less t. (got k less t).points)
        (λ c none. a.points_else.same nought c none ∙ sym (b.points_else.same nought c none))

    faces : after₁.buffers.faces ≡ after₂.buffers.faces
    faces =
        covered 0 (λ k. (order_at orders k).out_faces) (length orders) after₁.buffers.faces after₂.buffers.faces
        (a.faces_else.as_long ∙ sym b.faces_else.as_long) (λ k less t. (got k less t).faces)
        (λ c none. a.faces_else.same 0 c none ∙ sym (b.faces_else.same 0 c none))

    answers : after₁.answers ≡ after₂.answers
    answers = covered-row 0 5 (length orders) a.answers_else b.answers_else (λ k less t. (got k less t).five)

    closed : after₁.closed ≡ after₂.closed
    closed = covered-row 0 3 (length orders) a.closed_else b.closed_else (λ k less t. (got k less t).closed)

-- hjoltravan_root, hjoltravan_narrow and hjoltravan_order_key
pub root-determined : (bits : ℕ) {r₁ r₂ : ℕ} → r₁ ≡ root_bits bits → r₂ ≡ root_bits bits → r₁ ≡ r₂
root-determined bits a b = a ∙ sym b

pub narrow-determined : (bits : ℕ) {r₁ r₂ : ℕ} → r₁ ≡ narrow_bits bits → r₂ ≡ narrow_bits bits → r₁ ≡ r₂
narrow-determined bits a b = a ∙ sym b

pub order-determined : (bits : ℕ) {r₁ r₂ : ℤ} → r₁ ≡ order_key bits → r₂ ≡ order_key bits → r₁ ≡ r₂
order-determined bits a b = a ∙ sym b

-- hjoltravan_thin_orders: every lent cell, and the number
pub orders-determined : (orders : List Order) (s : Sources) (before : Desk) {after₁ after₂ : Desk} {number₁ number₂ : ℕ} →
    CalledForOrders orders s before after₁ number₁ → CalledForOrders orders s before after₂ number₂ → (after₁ ≡ after₂) × (number₁ ≡ number₂)
orders-determined orders s before a b =
    by-test (refused orders (buffers_of s before))
    (λ (bad : refused orders (buffers_of s before) ≡ true).
    let first = a.turned_away bad in
    let second = b.turned_away bad in
    (first.1 ∙ sym second.1, first.0 ∙ sym second.0))
    (λ (fine : refused orders (buffers_of s before) ≡ false).
    let first = a.served fine in
    let second = b.served fine in
    (served-determined orders s before first.1 second.1, first.0 ∙ sym second.0))
