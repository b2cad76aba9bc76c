-- A walk in the lent memory, whatever it keeps its open pairs in: what is true at each turn, and that its end is the plain walk's.
-- Assumes nothing.
use Prim.Native.Nat.{ℕ, ◌+◌, ◌^◌, ◌≤◌, ◌<◌}
use native.Mathlib.Nat.{le_refl}
use native.Mathlib.Omega.{arith}
use mathlib.Core.Path.{◌≡◌, refl, sym, ap, ◌∙◌}
use mathlib.Core.List.{List, [], ◌∷◌, ◌++◌}
use lib.Ieee.{Float}
use lib.ListN.{length, length-append}
use Rattle.std.specs.Prelude.{Option}
use Rattle.placement.specs.declared.pair.Vertex.{Vertex}
use Rattle.lists.specs.Lists.{below}
use Rattle.lists.specs.Frames.{But}
use Rattle.walk.specs.declared.Pair.{Pair}
use Rattle.walk.specs.Faces.{Mesh}
use Rattle.walk.specs.declared.Reason.{Reason}
use Rattle.walk.specs.Closings.{closings_of}
use Rattle.walk.specs.Clauses.{RoomToCount}
use Rattle.walk.proofs.ClosingLaws.{few-closed, budget-few}
use Rattle.walk.specs.Walk.{State, fold_of, reason_of, budget, answer, after, SameState, plain_machine}
use Rattle.walk.specs.Sound.{Sound}
use Rattle.walk.proofs.WalkLaws.{faces_left, SoundWithin, plain-ending}
use Rattle.walk.proofs.StateLaws.{SoundFew, plain-alike, start-bag}
use Rattle.walk.proofs.GoingLaws as any
use Rattle.walk.proofs.GoingLaws.{Engine, StepOf, NoteOf, Going}
use Rattle.meaning.specs.Arithmetic.{rules_of}
use Rattle.memory.specs.Memory.{Room, live_faces}
use Rattle.memory.specs.Layout.{folds_from, work_to}
use Rattle.memory.specs.Points.{mesh_of}
use Rattle.memory.specs.Entries.{folds_in}
use Rattle.memory.proofs.MeshLaws.{mesh-length}
use Rattle.mesh.specs.Clauses.Chains.{Tidy}
use Rattle.plainwalk.specs.declared.Step.{Step}
use Rattle.plainwalk.specs.declared.Step.TheVariants.{Folded, Closed, Ended}
use Rattle.plainwalk.specs.declared.Walked.{Walked}
use Rattle.plainwalk.specs.Steps.{answer_of, StepWithin, Within}
use Rattle.plainwalk.specs.Moments.{Moment, with_cells, noted}
use Rattle.plainwalk.specs.Whole.{start_in, WalkedFrom, WalkDone}
use Rattle.plainwalk.proofs.NoteLaws.{folds-length, folds-same, folds-more, noted-but}
use Rattle.plainwalk.proofs.MemoryLaws.{within-refl, within-but, within_more, within_then}
use Rattle.mesh.proofs.AroundLaws.{live-few}

-- How the memory holds a state of the plain walk. Writing a fold down leaves it.
pub record Holding (v f : ℕ) : Type 1 where
  pub state : Moment → State Vertex
  pub Held : Moment → Type 0
  pub same_mesh : (m : Moment) → (state m).mesh ≡ mesh_of v f m.u32s m.f32s m.f64s
  pub tidy : (m : Moment) → Held m → Tidy v f m.u32s
  pub sound : (m : Moment) → Held m → Sound (state m)
  pub counted : (m : Moment) → Held m → m.live ≡ length (live_faces f m.u32s)
  pub still_held : (m : Moment) (w : List ℕ) → But (folds_from v f) (work_to v f) m.u32s w → Held m → Held (with_cells m w)
  pub still_state : (m : Moment) (w : List ℕ) → But (folds_from v f) (work_to v f) m.u32s w → Held m → state (with_cells m w) ≡ state m

module _ {v f : ℕ} (h : Holding v f) where
  -- the points of a held state are few enough to be numbered
  pub points_few : (m : Moment) → h.Held m → length (h.state m).mesh.points ≤ 2 ^ 32
  points_few m held =
      omega (
        arith,
        ap (λ (mesh : Mesh Vertex). length mesh.points) (h.same_mesh m),
        mesh-length v f m.u32s m.f32s m.f64s,
        (h.tidy m held).room,
      )

  -- its faces are the live faces, and at most f
  faces_are : (m : Moment) → faces_left (h.state m) ≡ length (live_faces f m.u32s)
  unfolding mesh_of
  faces_are m = ap (λ (mesh : Mesh Vertex). length mesh.faces) (h.same_mesh m)

  pub faces_few : (m : Moment) → faces_left (h.state m) ≤ f
  faces_few m = omega (arith, faces_are m, live-few f m.u32s)

  module _ (target : ℕ) (limit : Option Float) (bound : Float) where
    -- it is an engine of the plain machine
    abbrev pub engine : Engine (plain_machine (rules_of limit bound) target) Moment
    engine = record {
      Good = SoundWithin f;
      Fit = SoundFew;
      Same = SameState;
      budget = budget f;
      size = faces_left;
      ending = plain-ending (rules_of limit bound) target f;
      alike = plain-alike (rules_of limit bound) target f;
      state = h.state;
      Held = h.Held;
      good = λ m held. (h.sound m held, faces_few m);
      fit = λ m held. (h.sound m held, points_few m held);
      written = λ m n. folds_in v f m.u32s n;
      Within = λ m m'. Within v f m.u32s m.f32s m.f64s m'.u32s m'.f32s m'.f64s;
      within_itself = λ m. within-refl _ v f m.u32s m.f32s m.f64s;
      within_then = λ one two. within_then one two;
    }

    -- A step in the lent memory is the plain walk's.
    pub record Taken (m m' : Moment) (step : Step) : Type 0 where
      pub holds : h.Held m'
      pub within : StepWithin v f m.u32s m.f32s m.f64s m'.u32s m'.f32s m'.f64s
      pub same_answer : answer_of step ≡ answer (rules_of limit bound) target (h.state m)
      pub same_state : SameState (h.state m') (after (rules_of limit bound) (h.state m) (answer (rules_of limit bound) target (h.state m)))

    -- Where a walk in the lent memory has come from m₀, after n folds and pairs closed for these reasons.
    pub record Walking (m₀ m : Moment) (n : ℕ) (reasons : List Reason) : Type 0 where
      pub start : h.Held m₀
      pub going : Going engine m₀ m n reasons

    -- before the first step
    pub walking_start : (m : Moment) → h.Held m → Walking m m 0 []
    unfolding folds_in below
    walking_start m held = record { start = held; going = any.going_start engine m held refl }

module _ {v f : ℕ} {h : Holding v f} {target : ℕ} {limit : Option Float} {bound : Float} {m₀ m : Moment} {n : ℕ} {reasons : List Reason}
    (walking : Walking h target limit bound m₀ m n reasons) where
  -- each fold has killed a face, so with those that are left they are at most f
  pub folds_few : n + m.live ≤ f
  folds_few =
      omega (
        arith,
        folds-length v f m.u32s n,
        any.going-fewer walking.start walking.going,
        faces_are h m,
        h.counted m walking.going.holds,
        faces_few h m₀,
      )

  module _ {m' : Moment} {step : Step} (done : Taken h target limit bound m m' step) where
    -- the folds before the step stay written
    taken : StepOf (engine h target limit bound) m m' (answer_of step) n
    taken = record {
      holds = done.holds;
      within = within_more (omega arith) done.within;
      same_answer = done.same_answer;
      same_state = done.same_state;
      same_folds = folds-same v f m.u32s m'.u32s n (λ i l k. done.within.but.over i l);
    }

    -- a pair was folded, and is written down
    module _ {x : Pair} (told : step ≡ Folded x) where
      -- its answer tells that pair alone
      fold-told : fold_of (answer_of step) ≡ (x ∷ [])
      unfolding fold_of
      fold-told = rw told

      -- and closes none
      none_told : reason_of (answer_of step) ≡ []
      unfolding reason_of
      none_told = rw told

      -- there is room to write it down
      pub room-folded : (n < f) × Room v f m'.u32s
      room-folded = (
        omega (
          arith,
          folds-length v f m'.u32s n,
          length-append (folds_in v f m'.u32s n) (x ∷ []),
          rw fold-told at (any.step_fewer walking.start walking.going taken),
          faces_few h m₀,
        ),
        (h.tidy m' done.holds).room,
      )

      -- and then one fold more is written down
      note : NoteOf (engine h target limit bound) m' (noted v f n x m') x n
      note =
          let cells = noted-but v f n x.keep x.remove m'.u32s room-folded.0 in
          record {
            holds = h.still_held m' _ cells done.holds;
            within = within-but m'.f32s m'.f64s cells (le_refl _);
            same_state = h.still_state m' _ cells done.holds;
            one_more = folds-more m'.u32s n x.keep x.remove room-folded.0 room-folded.1;
          }

      -- so the walk goes on, on a smaller budget
      pub turn-folded : Walking h target limit bound m₀ (noted v f n x m') (n + 1) reasons
      turn-folded = record { start = walking.start; going = any.turn-folded walking.start walking.going taken fold-told none_told note }

      pub less-folded : budget f (h.state (noted v f n x m')) < budget f (h.state m)
      less-folded =
          rw note.same_state
          (any.turn-less walking.start walking.going taken (λ d. let z : ◌≡◌ {A = ℕ} 0 1 = cc (sym (ap answer_of told) ∙ d) in omega arith))

    -- a pair was closed
    module _ {x : Pair} {reason : Reason} (told : step ≡ Closed x reason) where
      -- its answer tells that reason alone
      reason-told : reason_of (answer_of step) ≡ (reason ∷ [])
      unfolding reason_of
      reason-told = rw told

      -- it can be counted
      pub room-closed : RoomToCount (closings_of reasons)
      room-closed =
          few-closed reasons reason
          (omega (
            arith,
            rw reason-told at (any.step-closes walking.start walking.going taken),
            budget-few f (h.state m₀) (h.sound m₀ walking.start) (h.tidy m₀ walking.start).room.faces_few (faces_few h m₀),
          ))

      -- and the walk goes on, on a smaller budget
      pub turn-closed : Walking h target limit bound m₀ m' n (reasons ++ (reason ∷ []))
      unfolding fold_of
      turn-closed = record {
        start = walking.start;
        going = rw reason-told at (any.turn-closed walking.start walking.going taken (ap (λ (s : Step). fold_of (answer_of s)) told));
      }

      pub less-closed : budget f (h.state m') < budget f (h.state m)
      less-closed =
          any.turn-less walking.start walking.going taken (λ d. let z : ◌≡◌ {A = ℕ} 0 1 = cc (sym (ap answer_of told) ∙ d) in omega arith)

    -- at the end it is the plain walk that was walked
    pub walking-end : step ≡ Ended →
        WalkedFrom v f (h.state m₀) m₀.u32s m₀.f32s m₀.f64s target limit bound m'.u32s m'.f32s m'.f64s
        (record { folds = n; closed = closings_of reasons; live = m'.live })
    walking-end told =
        let over = any.going_end walking.start walking.going taken (ap answer_of told) in
        record {
          tidy = h.tidy m' done.holds;
          within = within_then walking.going.within taken.within;
          same_mesh = sym (h.same_mesh m') ∙ over.0.same_mesh;
          same_folds = sym (folds-length v f m'.u32s n) ∙ ap length over.1;
          same_list = over.1;
          same_closed = ap closings_of over.2;
          counted = h.counted m' done.holds;
        }

-- the walk from a memory that holds the start, in whatever order its open pairs are listed, is the whole walk
pub walked_whole : {v f : ℕ} (h : Holding v f) (m : Moment) {w w' : List ℕ} {p q p' q' : List Float} {target : ℕ} {limit : Option Float} {bound : Float} {r : Walked} →
    h.Held m → SameState (h.state m) (start_in v f w p q limit bound) → Within v f w p q m.u32s m.f32s m.f64s →
    WalkedFrom v f (h.state m) m.u32s m.f32s m.f64s target limit bound w' p' q' r → WalkDone v f w p q target limit bound w' p' q' r
walked_whole {v} {f} h m {target = target} {limit} {bound} held same within done =
    let both = start-bag (rules_of limit bound) target f (h.sound m held, points_few h m held) same in
    record {
      tidy = done.tidy;
      within = within_then within done.within;
      same_mesh = done.same_mesh ∙ both.0;
      same_folds = done.same_folds ∙ ap length both.1;
      same_list = done.same_list ∙ both.1;
      same_closed = done.same_closed ∙ ap closings_of both.2;
      counted = done.counted;
    }
