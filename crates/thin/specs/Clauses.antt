-- What the program's functions that read and save files ask and leave.
use Rattle.std.specs.Prelude.{ℕ, ◌+◌, ◌/◌, ◌%◌, ◌≤◌, ◌≡◌, List, ◌∷◌, [], ◌++◌, Bool, true, length, take, IsUtf8, Option, Some, None, Result, Ok, Err}
use Rattle.text.specs.Words.{ascii}

-- an answer says exactly whether two words are the same
pub record SaysSame (r : Bool) (word other : List ℕ) : Type 0 where
  pub says : r ≡ true → word ≡ other
  pub passes : word ≡ other → r ≡ true

-- how many bytes were read
abbrev pub size_got : Option ℕ → ℕ
size_got (Some n) = n
size_got None = 0

-- No more bytes were read than there is room for, and there is as much room as before. Which bytes they are hangs on what the reader gives, and std's contract
-- says nothing of a file's or standard input's.
pub record ReadIn (r : Option ℕ) (old new : List ℕ) : Type 0 where
  pub within : size_got r ≤ length new
  pub same_length : length new ≡ length old

-- the length of a new file's name is within the room for it, which is as long as it was; and the name is text
abbrev pub name_length : {F E : Type 0} → Result (F × ℕ) E → ℕ
name_length (Ok (file, n)) = n
name_length (Err why) = 0

pub record MadeIn {F E : Type 0} (r : Result (F × ℕ) E) (old new : List ℕ) : Type 0 where
  pub within : name_length r ≤ length new
  pub same_length : length new ≡ length old
  pub is_text : IsUtf8 (take (name_length r) new)

-- the k-th name for a file beside another
abbrev pub name_beside : List ℕ → ℕ → List ℕ
name_beside name k = name ++ (ascii ".thin-" ++ ((48 + k / 10) ∷ (48 + k % 10) ∷ []))
