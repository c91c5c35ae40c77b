-- What does `help` print of each command?
use Rattle.std.specs.Prelude.{ℕ, ◌||◌, if◌then◌else◌, List, Option, Some, None, bytes_eq, codes}
use Rattle.qcow2_help.specs.declared.commands.TheConstants.{APPLY, AT, CHECK, COMMANDS, COUNT, EDIT, HELP, INFO, L2, LAYOUT, LIST, MAP, REFCOUNT, TABLES, VERSION}

-- the text on all commands
unfoldable pub commands_text : List ℕ
commands_text = COMMANDS.now

-- the text on the program's version
unfoldable pub version_text : List ℕ
version_text = VERSION.now

-- the text on the command of a name, if there is such a command
unfoldable pub command_text : List ℕ → Option (List ℕ)
command_text name =
    if bytes_eq name (codes "info") then Some INFO.now
    else if bytes_eq name (codes "list") then Some LIST.now
    else if bytes_eq name (codes "map") then Some MAP.now
    else if bytes_eq name (codes "at") then Some AT.now
    else if bytes_eq name (codes "tables") then Some TABLES.now
    else if bytes_eq name (codes "layout") then Some LAYOUT.now
    else if bytes_eq name (codes "refcount") then Some REFCOUNT.now
    else if bytes_eq name (codes "check") then Some CHECK.now
    else if bytes_eq name (codes "apply") then Some APPLY.now
    else if bytes_eq name (codes "edit") then Some EDIT.now
    else if bytes_eq name (codes "count") then Some COUNT.now
    else if bytes_eq name (codes "l2") then Some L2.now
    else if bytes_eq name (codes "help") || bytes_eq name (codes "explain") || bytes_eq name (codes "version") then Some HELP.now
    else None
