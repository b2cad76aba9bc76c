-- `memory::points::vertex_with` meets its contract: each part is what the function that read it ensures.
-- Assumes nothing.
use mathlib.Core.Path.{◌≡◌, ap, ◌∙◌}
use Rattle.geometry.specs.declared.Point.{Point}
use Rattle.geometry.specs.declared.Quadric.{Quadric}
use Rattle.placement.specs.declared.Kind.{Kind}
use Rattle.placement.specs.declared.pair.Vertex.{Vertex}
use Rattle.placement.specs.Choices.{kind_of}
use Rattle.memory.proofs.points.vertex_with.Goals as goal

-- a vertex of equal parts is the same
abbrev made : Point → Quadric → Kind → Vertex
made a b k = record { point = a; quadric = b; kind = k }

same_parts : {a a' : Point} {b : Quadric} {k k' : Kind} → a ≡ a' → k ≡ k' → made a b k ≡ made a' b k'
same_parts e g = rw (e, g)

pub returns : goal.returns
returns c = same_parts c.point_at.ensures (c.from.ensures ∙ ap kind_of c.kind_at.ensures)
