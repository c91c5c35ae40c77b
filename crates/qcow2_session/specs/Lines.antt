-- What is the text of an offset and of a mapping?
pub mod Output
use Rattle.std.specs.Prelude.{ℕ, ◌*◌, ◌^◌, Bool, true, false, List, [], ◌++◌, Some, None, codes}
use Rattle.std.specs.Fmt.{decimal, digits}
use Rattle.qcow2_metadata.specs.Entries.L2Mapping.{Mapping, backing, compressed, data_file, zeros}

-- an offset, in hexadecimal
abbrev pub offset_text : ℕ → List ℕ
offset_text offset = codes "0x" ++ digits 16 false offset

-- the mark of a cluster whose refcount is exactly one
abbrev pub copied_text : Bool → List ℕ
copied_text true = codes " copied"
copied_text false = []

-- the text of a mapping under cluster_bits
abbrev pub mapping_text : ℕ → Mapping → List ℕ
mapping_text cb (data_file cluster copied) =
    codes "data " ++ offset_text (cluster * 2 ^ cb) ++ copied_text copied
mapping_text cb (zeros (Some cluster) copied) =
    codes "zero " ++ offset_text (cluster * 2 ^ cb) ++ copied_text copied
mapping_text cb (zeros None copied) = codes "zero"
mapping_text cb (compressed offset length) =
    codes "compressed " ++ offset_text offset ++ codes " " ++ decimal length
mapping_text cb (backing offset) = codes "backing " ++ offset_text offset
