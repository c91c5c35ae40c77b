-- What do the words of a command line say?
use Rattle.std.specs.Prelude.{◌≡◌, ℕ, ◌^◌, ◌&&◌, nat_lt, nat_le, ◌==◌, if◌then◌else◌, List, [], ◌∷◌, length, Option, Some, None, IsSome, Result, Ok, Err}
use Rattle.std.specs.List.{after_first, before_first, position_or_len}
use Rattle.std.specs.Str.{all_ascii_digits}
use Rattle.std.specs.Str.Parse.{digits_value}
use Rattle.qcow2_session.specs.declared.commands.Command.{Command}

-- a word of a command line, by its bytes
abbrev pub Word : Type 0
Word = List ℕ

-- the words of a command line, or some of them
abbrev pub WordList : Type 0
WordList = List Word

-- the number that a word says, if it is 1 to 20 decimal digits whose number fits 64 bits
abbrev pub word_number : Word → Option ℕ
word_number word =
    let number = digits_value 10 word in
    let is_short = nat_lt 0 (length word) && nat_le (length word) 20 in
    if all_ascii_digits word && is_short && nat_lt number (2 ^ 64) then Some number else None

-- what stands before the first colon of a word, and after it
abbrev pub parts_of : Word → Option (Word × Word)
parts_of word =
    if nat_lt (position_or_len (λ b. b == 58) word) (length word)
    then Some (before_first (λ b. b == 58) word, after_first (λ b. b == 58) word) else None

-- two values put together, where both are there
abbrev pub pair_by : {A B C : Type 0} → (A → B → C) → Option A → Option B → Option C
pair_by join (Some one) (Some other) = Some (join one other)
pair_by join _ _ = None

-- what words say, by what one says, where each says something
abbrev pub all_values : {T : Type 0} → (Word → Option T) → WordList → Option (List T)
all_values value_of [] = Some []
all_values value_of (word ∷ words) = pair_by (λ first rest. first ∷ rest) (value_of word) (all_values value_of words)

-- a command that has no words after its image
abbrev pub command_alone : Command → WordList → Option Command
command_alone command [] = Some command
command_alone command (word ∷ words) = None

-- words were parsed: they mean this, or something that memory ran out for, or nothing
abbrev pub Parses : {T E : Type 0} → Option (Result T E) → Option T → Type 0
Parses None meant = meant ≡ None
Parses (Some (Ok value)) meant = meant ≡ Some value
Parses (Some (Err error)) meant = IsSome meant
