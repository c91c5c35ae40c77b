use Rattle.std.proofs.Common.{◌≡◌, ◌+◌, ◌-◌, ◌≤◌, Some, length, map, string_bytes, take}
use Rattle.std.specs.Option.{IsSome}
use Rattle.std.specs.Result.{IfOk}
use Rattle.std.specs.Vec.{vec_capacity}
use Rattle.qcow2_session.specs.Commands.Words.{all_values}
use Rattle.qcow2_session.proofs.commands.words.Arguments.parse.Given as goal

-- the words before this one say what is in the list, if there is memory for one, and it has room for the others
abbrev pub invariant-loop-word : goal.invariant-loop-word
invariant-loop-word g l = record {
  all_say : IsSome (all_values g.T.FromWord.from_word (map string_bytes (take l.word-index l.words)));
  items : IfOk l.list (λ list. all_values g.T.FromWord.from_word (map string_bytes (take l.word-index l.words)) ≡ Some list.items);
  room : IfOk l.list (λ list. length list.items + (length l.words - l.word-index) ≤ vec_capacity list);
}
