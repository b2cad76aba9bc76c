-- The layout of the lent work memory for V points and F faces: the first cell of each part. No other file says where a part begins.
--
--   memory  part          from        cells   what
--   u32     corners       0           3F      the three points of each face
--   u32     lives         3F          F       1 while the face is there
--   u32     nexts         4F          3F      the link from a corner to the next one at the same point
--   u32     firsts        7F          V       the link from a point to its first corner
--   u32     kinds         7F + V      V       what the point is, by number
--   u32     marks         7F + 2V     V       0 between uses
--   u32     stamps        7F + 3V     V       how many folds have touched the point
--   u32     entries       7F + 4V     12F     of each entry of the queue, in the order of the heap: keep, remove, and the stamps of both
--   u32     keeps         7F + 4V     3F      keep of each open pair of the plain walk, which has no queue
--   u32     removes       10F + 4V    3F      remove, likewise
--   u32     near          19F + 4V    F       faces around a point, or around keep, while they are looked at
--   u32     far           20F + 4V    F       faces around remove, likewise
--   u32     around        21F + 4V    V       points around a point, while they are looked at
--   u32     folds         21F + 5V    2F      keep and remove of each fold made
--   f32     points        0           3V      the three parts of each point
--   f32     places        3V          9F      the three parts of the place of each entry of the queue
--   f64     quadrics      0           10V     the ten parts of each point's quadric
--   f64     costs         10V         3F      the cost of each entry of the queue
--
-- A link is 0 at the end of a chain, and else the next corner's number plus 1. Document 01 states more room than is used.
use Rattle.std.specs.Prelude.{ℕ, ◌+◌, ◌*◌}

-- ---- u32

abbrev pub lives_from : ℕ → ℕ
lives_from f = 3 * f

abbrev pub nexts_from : ℕ → ℕ
nexts_from f = 4 * f

abbrev pub firsts_from : ℕ → ℕ
firsts_from f = 7 * f

abbrev pub kinds_from : ℕ → ℕ → ℕ
kinds_from v f = 7 * f + v

abbrev pub marks_from : ℕ → ℕ → ℕ
marks_from v f = 7 * f + 2 * v

abbrev pub stamps_from : ℕ → ℕ → ℕ
stamps_from v f = 7 * f + 3 * v

abbrev pub entries_from : ℕ → ℕ → ℕ
entries_from v f = 7 * f + 4 * v

abbrev pub keeps_from : ℕ → ℕ → ℕ
keeps_from v f = 7 * f + 4 * v

abbrev pub removes_from : ℕ → ℕ → ℕ
removes_from v f = 10 * f + 4 * v

abbrev pub near_from : ℕ → ℕ → ℕ
near_from v f = 19 * f + 4 * v

abbrev pub far_from : ℕ → ℕ → ℕ
far_from v f = 20 * f + 4 * v

abbrev pub around_from : ℕ → ℕ → ℕ
around_from v f = 21 * f + 4 * v

abbrev pub folds_from : ℕ → ℕ → ℕ
folds_from v f = 21 * f + 5 * v

-- where the last part ends
abbrev pub work_to : ℕ → ℕ → ℕ
work_to v f = 23 * f + 5 * v

-- ---- f32 and f64

abbrev pub places_from : ℕ → ℕ
places_from v = 3 * v

abbrev pub places_to : ℕ → ℕ → ℕ
places_to v f = 3 * v + 9 * f

abbrev pub costs_from : ℕ → ℕ
costs_from v = 10 * v

abbrev pub costs_to : ℕ → ℕ → ℕ
costs_to v f = 10 * v + 3 * f

-- ---- what document 01 states for V points and F faces

abbrev pub u32s_needed : ℕ → ℕ → ℕ
u32s_needed v f = 16 * v + 32 * f

abbrev pub f32s_needed : ℕ → ℕ → ℕ
f32s_needed v f = 4 * v + 12 * f

abbrev pub f64s_needed : ℕ → ℕ → ℕ
f64s_needed v f = 16 * v + 6 * f
