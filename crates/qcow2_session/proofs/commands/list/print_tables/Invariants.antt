use Rattle.std.proofs.Common.{◌≡◌, ◌++◌, ◌-◌, ℕ, IsTrue, List, Ok, length, map}
use Rattle.std.specs.List.{concat}
use Rattle.std.specs.Io.KnownBytes.{Appends}
use Rattle.qcow2_base.specs.Storage.{ReadsFor}
use Rattle.qcow2_metadata.specs.Header.{geometry_of}
use Rattle.qcow2_session.specs.Commands.List.{texts_left}
use Rattle.qcow2_image.specs.BlankTables.{AreBlankIn}
use Rattle.qcow2_session.proofs.commands.list.print_tables.Given as goal

-- the tables before those that are left can be loaded and are printed, and no call of the image has failed
abbrev pub invariant-loop-index : goal.invariant-loop-index
invariant-loop-index g l =
    let old = g.S.Storage.state l.fn.image in
    let walk = l.fn.tables in
    record {
      printed : IsTrue old.tells → (printed : List (List ℕ))
          × (texts_left walk old.byte_at ≡ map Ok printed ++ texts_left l.tables old.byte_at)
          × Appends (g.O.Write.contents l.fn.out) (g.O.Write.contents l.out) (concat printed);
      blank : IsTrue old.tells → AreBlankIn (geometry_of walk.header) old.byte_at l.blank;
      same : l.tables ≡ record walk { index = l.tables.index };
      reads : ReadsFor ⊥ old (g.S.Storage.state l.image);
    }

abbrev pub decreases-loop-index : goal.decreases-loop-index
decreases-loop-index g l = length l.tables.l1 - l.tables.index
