-- What counting a closed pair asks and answers.
use Rattle.std.specs.Prelude.{◌+◌, ◌^◌, ◌<◌, cond}
use Rattle.walk.specs.declared.Closings.{Closings}
use Rattle.walk.specs.declared.Reason.{Reason}
use Rattle.walk.specs.Closings.{is_not_linked, is_squashed, is_turned_over}

-- one reason more
abbrev pub with_reason : Closings → Reason → Closings
with_reason closed reason =
    record {
      unlinked = closed.unlinked + cond (is_not_linked reason) 1 0;
      squashed = closed.squashed + cond (is_squashed reason) 1 0;
      turned = closed.turned + cond (is_turned_over reason) 1 0;
    }

-- each count has room for another as a u64
pub record RoomToCount (closed : Closings) : Type 0 where
  pub unlinked_few : closed.unlinked + 1 < 2 ^ 64
  pub squashed_few : closed.squashed + 1 < 2 ^ 64
  pub turned_few : closed.turned + 1 < 2 ^ 64
