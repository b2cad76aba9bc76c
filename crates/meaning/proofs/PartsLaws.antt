-- The parts of points that are written: three at each point's place, and so in the buffer that they are written to.
-- Assumes nothing.
use Prim.Native.Nat.{ℕ, zero, suc, ◌+◌, ◌*◌, ◌<◌}
use native.Mathlib.Nat.{le_of_suc-le-suc, not-suc-le-zero}
use native.Mathlib.Omega.{arith}
use mathlib.Core.Path.{◌≡◌, refl, ◌∙◌}
use mathlib.Core.List.{List, [], ◌∷◌}
use lib.ListN.{length, get_or, drop, get_or-append}
use lib.Ieee.{Float, nan}
use Rattle.lists.specs.Lists.{overlaid}
use Rattle.placement.specs.declared.pair.Vertex.{Vertex}
use Rattle.walk.specs.Faces.{Rules, Mesh, data_of}
use Rattle.meaning.specs.Input.{point_at}
use Rattle.meaning.specs.Outcome.{parts_in}

-- how many there are
pub parts-length : (rules : Rules Vertex) (m : Mesh Vertex) (xs : List ℕ) → length (parts_in rules m xs) ≡ 3 * length xs
unfolding parts_in
parts-length rules m [] = refl
parts-length rules m (x ∷ xs) = omega (arith, parts-length rules m xs)

-- the point at place k of a list is found there where the list is laid over another
pub point-over : (new old : List Float) (k : ℕ) → 3 * k + 2 < length new → point_at (overlaid new old) k ≡ point_at new k
point-over new old k h =
    let rest = drop (length new) old in
    let at : (j : ℕ) → j < length new → get_or (overlaid new old) j nan ≡ get_or new j nan = get_or-append new rest nan in
    λ t. record { x = at (3 * k) (omega arith) t; y = at (3 * k + 1) (omega arith) t; z = at (3 * k + 2) h t }

-- the point at place k is the point of the k-th number
pub parts_at : (rules : Rules Vertex) (m : Mesh Vertex) (xs : List ℕ) (k : ℕ) → k < length xs →
    point_at (parts_in rules m xs) k ≡ (data_of rules m (get_or xs k 0)).point
unfolding parts_in
parts_at rules m [] k h = absurd (not-suc-le-zero h)
parts_at rules m (x ∷ xs) zero h = refl
parts_at rules m (x ∷ xs) (suc k) h =
    let all = parts_in rules m (x ∷ xs) in
    let first : 3 * suc k ≡ suc (suc (suc (3 * k))) = omega arith in
    let second : 3 * suc k + 1 ≡ suc (suc (suc (3 * k + 1))) = omega arith in
    let third : 3 * suc k + 2 ≡ suc (suc (suc (3 * k + 2))) = omega arith in
    (λ t. record { x = get_or all (first t) nan; y = get_or all (second t) nan; z = get_or all (third t) nan })
    ∙ parts_at rules m xs k (le_of_suc-le-suc h)
