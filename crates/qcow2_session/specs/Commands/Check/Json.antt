-- What does a check print in JSON?
use Rattle.std.specs.Prelude.{ℕ, Bool, ◌&&◌, ◌==◌, nat_le, nat_lt, ◌/◌, ◌%◌, true, if◌then◌else◌, List, [], ◌∷◌, ◌++◌, flat_map, Result, codes}
use Rattle.std.specs.Char.Escape.{encode_utf16}
use Rattle.std.specs.Fmt.{decimal, digit_glyph}
use Rattle.std.specs.Str.{chars}
use Rattle.qcow2_base.specs.Storage.{Image}
use Rattle.qcow2_base.specs.declared.fault.Fault.{Fault}
use Rattle.qcow2_metadata.specs.Header.{HeaderRecord}
use Rattle.qcow2_metadata.specs.Results.{result_map}
use Rattle.qcow2_session.specs.Commands.Check.Account.{checked_account}
use Rattle.qcow2_session.specs.declared.commands.check.account.Account.{Account}

-- a unit of UTF-16 in a string: four hexadecimal digits
abbrev pub escaped_unit : ℕ → List ℕ
escaped_unit unit = codes "\\u" ++ digit_glyph true (unit / 4096 % 16) ∷ digit_glyph true (unit / 256 % 16)
    ∷ digit_glyph true (unit / 16 % 16) ∷ digit_glyph true (unit % 16) ∷ []

-- a character in a string: itself where it is printable ASCII, but for quotation marks and backslashes
abbrev pub escaped_char : ℕ → List ℕ
escaped_char c =
    if c == 34 then codes "\\\"" else if c == 92 then codes "\\\\" else if c == 8 then codes "\\b"
    else if c == 12 then codes "\\f" else if c == 10 then codes "\\n" else if c == 13 then codes "\\r"
    else if c == 9 then codes "\\t" else if nat_le 32 c && nat_lt c 127 then c ∷ []
    else flat_map escaped_unit (encode_utf16 c)

-- the text of bytes that spell it, in a string
abbrev pub escaped_text : List ℕ → List ℕ
escaped_text text = flat_map escaped_char (chars text)

-- the line of a member that is a number, which is left out where that is 0
abbrev pub number_line : List ℕ → ℕ → List ℕ
number_line name number = if number == 0 then []
    else codes "    \"" ++ name ++ codes "\": " ++ decimal number ++ codes ",\n"

-- the line of a mark, which is left out where it isn't set
abbrev pub mark_line : List ℕ → Bool → List ℕ
mark_line name is_set = if is_set then codes "    \"" ++ name ++ codes "\": true,\n" else []

-- the line of the name of the image's file
abbrev pub file_line : List ℕ → List ℕ
file_line name = codes "    \"filename\": \"" ++ escaped_text name ++ codes "\",\n"

-- the last lines: the format, and how many entries are fragmented
abbrev pub last_lines : ℕ → List ℕ
last_lines fragmented = codes "    \"format\": \"qcow2\""
    ++ (if fragmented == 0 then [] else codes ",\n    \"fragmented-clusters\": " ++ decimal fragmented) ++ codes "\n}\n"

-- the object of an account of an image, whose file has this name
abbrev pub object_text : List ℕ → Account → List ℕ
object_text name account = codes "{\n" ++ number_line (codes "image-end-offset") account.image_end
    ++ number_line (codes "compressed-clusters") account.entries.compressed
    ++ number_line (codes "total-clusters") account.guest_clusters
    ++ number_line (codes "corruptions") account.corruptions ++ codes "    \"check-errors\": 0,\n"
    ++ number_line (codes "leaks") account.totals.leaked
    ++ number_line (codes "shared") account.totals.shared ++ number_line (codes "past") account.totals.past
    ++ number_line (codes "false-flags") account.totals.false_flags
    ++ number_line (codes "late-flags") account.totals.late_flags
    ++ mark_line (codes "dirty") account.is_dirty ++ mark_line (codes "corrupt") account.is_corrupt
    ++ number_line (codes "allocated-clusters") account.entries.allocated
    ++ file_line name ++ last_lines account.entries.fragmented

-- the object of an image with this header and of this length, or why it can't be checked
abbrev pub checked_object : List ℕ → HeaderRecord → ℕ → Image → Result (List ℕ) Fault
checked_object name header len image = result_map (object_text name) (checked_account header len image)
