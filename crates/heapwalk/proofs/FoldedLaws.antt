-- The fold of a pair that is off the queue: the mesh is folded, both points get a higher stamp, pairs are entered, and the state is the plain walk's
-- after that fold.
-- Assumes nothing.
use Prim.Native.Nat.{ℕ, ◌+◌, ◌*◌, ◌-◌, ◌^◌, ◌≤◌, ◌<◌}
use native.Mathlib.Omega.{arith}
use mathlib.Core.Path.{◌≡◌, refl, sym, ap, ap₂, ◌∙◌}
use mathlib.Core.List.{List, ◌∷◌}
use mathlib.Core.Bool.{false, cond}
use lib.Dec.{eqb}
use lib.Ieee.{Float, nan}
use lib.ListN.{length, get_or, length-append}
use lib.Seq.{get_or-set_other}
use borrow.Author.Tests.{eqb-false}
use Rattle.std.specs.Prelude.{Option}
use Rattle.geometry.specs.declared.Point.{Point}
use Rattle.placement.specs.declared.pair.Vertex.{Vertex}
use Rattle.lists.specs.Lists.{sum, those}
use Rattle.walk.specs.Faces.{Mesh, merged_of}
use Rattle.walk.specs.Fold.{folded_mesh}
use Rattle.walk.specs.Walk.{folded, after, SameState}
use Rattle.walk.specs.Pairs.{pair_of, apart, opened}
use Rattle.lists.proofs.SumLaws.{sum-append}
use Rattle.lists.proofs.TestLaws.{neither-of, flag-le}
use Rattle.walk.proofs.SoundLaws.{fold-sound}
use Rattle.walk.proofs.StepLaws.{fold-room}
use Rattle.memory.specs.Memory.{live_faces, Room}
use Rattle.lists.specs.Frames.{But}
use Rattle.lists.proofs.FrameLaws.{but-then, but-widen}
use Rattle.mesh.proofs.TidyLaws.{tidy-but}
use Rattle.mesh.proofs.AroundLaws.{live-faces-but, live-few}
use Rattle.memory.specs.Points.{vertex_at, mesh_of}
use Rattle.meaning.specs.Arithmetic.{rules_of}
use Rattle.memory.proofs.MeshLaws.{mesh-point, mesh-but}
use Rattle.ring.specs.declared.Neighbours.TheVariants.{Every}
use Rattle.openpairs.specs.Clauses.Edges.{opened_around}
use Rattle.folding.specs.Clauses.Folds.{MeshFolded}
use Rattle.meaning.specs.Input.{point_at}
use Rattle.memory.specs.Entries.{stamp}
use Rattle.memory.proofs.EntryLaws.{entry-path}
use Rattle.queue.specs.State.{open_in, heap_state}
use Rattle.queue.specs.Stored.{stamps_of, entries_in, Requeued}
use Rattle.queue.proofs.PresentLaws.{stamps-over}
use Rattle.heapwalk.specs.Entries.{new_entries}
use Rattle.heapwalk.specs.Clauses.Entering.{Open, Entered}
use Rattle.plainwalk.specs.declared.Step.TheVariants.{Folded}
use Rattle.walk.proofs.StateLaws.{sound-bag}
use Rattle.plainwalk.specs.Steps.{StepWithin}
use Rattle.plainwalk.proofs.MemoryLaws.{within_then}
use Rattle.lists.proofs.DropLaws.{rest_more, past-drop}
use Rattle.walk.proofs.PairLaws.{touches, spared-apart, without-self}
use Rattle.heapwalk.specs.Clauses.Trying.{pair_state, PairHolds, PairAnswer}
use Rattle.queue.proofs.MovedLaws.{Moved, queue-moved, entries-moved, open-moved, kept-moved}
use Rattle.heapwalk.proofs.MemoryLaws.{mesh-floats, pair-open, pair-points, pair-differ, pair-shared}
use Rattle.heapwalk.proofs.StampLaws.{bumped, first-room, first-stamp, both-but, both-stamps}
use Rattle.memory.specs.Layout.{costs_to, entries_from, keeps_from, places_to, stamps_from}
use Rattle.folding.proofs.TriedLaws.{folded-live}

module _ {v f : ℕ} {w : List ℕ} {p q : List Float} {n live : ℕ} {limit : Option Float} {bound : Float} {keep remove : ℕ} {place : Point}
    {w₁ : List ℕ} {p' q' : List Float} {gone : ℕ}
    (h : PairHolds v f w p q n live bound keep remove place) (fold : MeshFolded v f limit bound w p q keep remove w₁ p' q' gone) where
  -- the faces that are gone and those that are left are the faces before
  pub left-live : length (live_faces f w₁) + gone ≡ live
  left-live = folded-live fold ∙ sym h.held.counted

  -- keep's stamp may grow, and then remove's: they are far from the machine's greatest number
  pub keep-grows : (keep < v) × Room v f w₁ × (stamp v f w₁ keep + 1 < 2 ^ 32)
  keep-grows =
      let inside = (pair-points h).0 in (
        inside,
        fold.tidy.room,
        omega (arith, fold.but.over (stamps_from v f + keep) (omega arith), h.held.young keep inside, h.held.«open».tidy.room),
      )

  pub remove-grows : {w₂ : List ℕ} → w₂ ≡ bumped v f w₁ keep → (remove < v) × Room v f w₂ × (stamp v f w₂ remove + 1 < 2 ^ 32)
  remove-grows one =
      let room = fold.tidy.room in
      let kept-inside = (pair-points h).0 in
      let inside = (pair-points h).1 in (
        inside,
        first-room room kept-inside one,
        omega (
          arith,
          first-stamp room kept-inside one remove,
          flag-le (eqb remove keep),
          fold.but.over (stamps_from v f + remove) (omega arith),
          h.held.young remove inside,
          h.held.«open».tidy.room,
        ),
      )

  module _ {w₂ w₃ : List ℕ} (one : w₂ ≡ bumped v f w₁ keep) (two : w₃ ≡ bumped v f w₂ remove) where
    stamps-but : But (stamps_from v f) (keeps_from v f) w₁ w₃
    stamps-but = both-but fold.tidy.room (pair-points h).0 (pair-points h).1 (pair-differ h) one two

    whole_but : But 0 (keeps_from v f) w w₃
    whole_but = but-then (but-widen (omega arith) (omega arith) fold.but) (but-widen (omega arith) (omega arith) stamps-but)

    stamps-are : (x : ℕ) → x < v → stamp v f w₃ x ≡ stamp v f w x + cond (touches keep remove x) 1 0
    stamps-are x l =
        both-stamps fold.tidy.room (pair-points h).0 (pair-points h).1 (pair-differ h) one two x
        ∙ ap (λ (k : ℕ). k + cond (touches keep remove x) 1 0) (fold.but.over (stamps_from v f + x) (omega arith))

    stamped-mesh : mesh_of v f w₃ p' q' ≡ folded_mesh (rules_of limit bound) (mesh_of v f w p q) (pair_of keep remove)
    stamped-mesh = mesh-but v f p' q' stamps-but (omega arith) ∙ fold.same_mesh

    -- a point that isn't touched carries what it did
    carries_same : (x : ℕ) → x < v → touches keep remove x ≡ false → vertex_at v f w₃ p' q' x ≡ vertex_at v f w p q x
    unfolding folded_mesh
    carries_same x l e =
        let blank = (rules_of limit bound).blank in
        let other = eqb-false x keep (neither-of (eqb x keep) (eqb x remove) e).0 in
        sym (mesh-point v f w₃ p' q' x blank l)
        ∙ ap (λ (m : Mesh Vertex). get_or m.points x blank) stamped-mesh
        ∙ get_or-set_other (mesh_of v f w p q).points keep x (merged_of (rules_of limit bound) (mesh_of v f w p q) (pair_of keep remove)) blank other
        ∙ mesh-point v f w p q x blank l

    fold-moved : Moved v f w p q w₃ p' q' (touches keep remove)
    fold-moved = record {
      entries = λ i l.
          let past = past-drop nan p' p (3 * v) fold.rest_p in
          let word : (k : ℕ) → k < 4 → get_or w₃ (entries_from v f + 4 * i + k) 0 ≡ get_or w (entries_from v f + 4 * i + k) 0 =
          λ k h. whole_but.over (entries_from v f + 4 * i + k) (omega arith) in
          let same_place : point_at p' (v + i) ≡ point_at p (v + i) =
          rw (past (3 * (v + i)) (omega arith), past (3 * (v + i) + 1) (omega arith), past (3 * (v + i) + 2) (omega arith)) in
          entry-path (ap₂ pair_of (whole_but.over (entries_from v f + 4 * i) (omega arith)) (word 1 (omega arith)))
          (past-drop nan q' q (10 * v) fold.rest_q (10 * v + i) (omega arith)) same_place (word 2 (omega arith)) (word 3 (omega arith));
      stamps = stamps-are;
      carries = carries_same;
    }

    -- the pairs that stay open
    spared-open : open_in v f w₃ n ≡ those (apart (pair_of keep remove)) (open_in v f w n)
    spared-open =
        open-moved fold-moved h.held.«open».queue h.held.«open».kept ∙ spared-apart keep remove (open_in v f w n)

    pub stamped-open : Open v f w₃ p' q' n bound
    stamped-open =
        let queue = h.held.«open».queue in
        record {
          tidy = tidy-but (omega arith) stamps-but fold.tidy;
          queue = queue-moved fold-moved queue whole_but.same_length fold.same_length_p fold.same_length_q;
          kept = kept-moved fold-moved queue h.held.«open».kept;
        }

    -- there is room for the pairs that the fold opens
    pub room-left : length (open_in v f w₃ n) + length (opened_around (rules_of limit bound) (mesh_of v f w₃ p' q') Every keep) ≤ 3 * f
    unfolding pair_state after mesh_of
    room-left =
        let x = pair_of keep remove in
        let rules = rules_of limit bound in
        omega (
          arith,
          ap (λ (m : Mesh Vertex). length (opened rules m keep)) stamped-mesh,
          fold-room rules (pair_state v f w p q n x) h.held.sound x (pair-open h),
          length-append (those (apart x) (x ∷ open_in v f w n)) (opened rules (folded_mesh rules (mesh_of v f w p q) x) keep),
          ap length (without-self x (open_in v f w n)),
          ap length spared-open,
          live-few f w,
        )

    module _ {w₄ : List ℕ} {p₄ q₄ : List Float} {more : ℕ}
        (enter : Entered v f w₃ p' q' n limit bound (opened_around (rules_of limit bound) (mesh_of v f w₃ p' q') Every keep) w₄ p₄ q₄ more) where
      -- the state after the fold is the plain walk's
      folded-state : SameState (heap_state v f w₄ p₄ q₄ more)
          (after (rules_of limit bound) (pair_state v f w p q n (pair_of keep remove)) (folded (pair_of keep remove)))
      unfolding heap_state pair_state after
      folded-state =
          let x = pair_of keep remove in
          let rules = rules_of limit bound in
          let into = enter.enqueued in
          record {
            same_mesh = mesh-but v f p₄ q₄ into.but (omega arith) ∙ mesh-floats v f w₃ into.points_but into.quadrics_but ∙ stamped-mesh;
            same_open =
                record {
                  sums = λ g.
                      into.sums g
                      ∙ ap₂ ◌+◌ (ap (sum g) (spared-open ∙ sym (without-self x (open_in v f w n))))
                      (ap (λ (m : Mesh Vertex). sum g (opened rules m keep)) stamped-mesh)
                      ∙ sym (sum-append g (those (apart x) (x ∷ open_in v f w n)) _);
                };
          }

      folded-within : StepWithin v f w p q w₄ p₄ q₄
      folded-within =
          let into = enter.enqueued in
          within_then
          (record {
            but = but-widen (omega arith) (omega arith) whole_but;
            same_length_p = fold.same_length_p;
            same_length_q = fold.same_length_q;
            rest_p = rest_more p' p (3 * v) (places_to v f) (omega arith) fold.rest_p;
            rest_q = rest_more q' q (10 * v) (costs_to v f) (omega arith) fold.rest_q;
          })
          (record {
            but = but-widen (omega arith) (omega arith) into.but;
            same_length_p = into.points_but.same_length;
            same_length_q = into.quadrics_but.same_length;
            rest_p = into.points_but.rest;
            rest_q = into.quadrics_but.rest;
          })

      -- each stamp grew once at most, and a face is gone
      still-young : (x : ℕ) → x < v → stamp v f w₄ x + (live - gone) ≤ f
      still-young x l =
          omega (
            arith,
            enter.enqueued.but.under (stamps_from v f + x) (omega arith),
            stamps-are x l,
            flag-le (touches keep remove x),
            h.held.young x l,
            left-live,
            fold.counted,
            pair-shared h,
          )

      -- the entries that were queued, and those of the pairs that it opens
      folded-entries : Requeued (stamps_of v f w₄) (entries_in v f w p q n)
          (new_entries limit bound (mesh_of v f w₄ p₄ q₄) (stamps_of v f w₄) (folded (pair_of keep remove))) (entries_in v f w₄ p₄ q₄ more)
      folded-entries =
          let into = enter.enqueued in
          let same-stamps = stamps-over v f into.but (omega arith) in
          let same_mesh = mesh-but v f p₄ q₄ into.but (omega arith) ∙ mesh-floats v f w₃ into.points_but into.quadrics_but in
          let same_entries = entries-moved fold-moved h.held.«open».queue in
          rw (same-stamps, same_mesh, ← same_entries) enter.requeued

      pub folded-done : PairAnswer v f w p q n keep remove limit bound (folded (pair_of keep remove)) w₄ p₄ q₄
          (record { step = Folded (pair_of keep remove); «open» = more; live = live - gone })
      folded-done =
          let x = pair_of keep remove in
          record {
            tied = record {
              holds =
                  record {
                    «open» = enter.«open»;
                    sound = sound-bag folded-state (fold-sound (rules_of limit bound) (pair_state v f w p q n x) h.held.sound x (pair-open h));
                    counted =
                        let left : live - gone ≡ length (live_faces f w₁) = omega (arith, left-live) in
                        left ∙ sym (ap length (live-faces-but f enter.enqueued.but (omega arith) ∙ live-faces-but f stamps-but (omega arith)));
                    young = still-young;
                  };
              within = folded-within;
              same_answer = refl;
              same_state = folded-state;
            };
            raised = λ y l. enter.enqueued.but.under (stamps_from v f + y) (omega arith) ∙ stamps-are y l;
            requeued = folded-entries;
          }
