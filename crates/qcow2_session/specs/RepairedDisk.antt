-- What does a guest offset read as, whatever the copied flag of its entry says?
use Rattle.std.specs.Prelude.{◌≡◌, false, Result}
use Rattle.qcow2_base.specs.declared.fault.Fault.{Fault}
use Rattle.qcow2_metadata.specs.Entries.L2Mapping.{Mapping, backing, compressed, data_file, zeros}
use Rattle.qcow2_metadata.specs.Results.{result_map}

-- a mapping without its copied flag
abbrev pub without_flag : Mapping → Mapping
without_flag (data_file cluster copied) = data_file cluster false
without_flag (backing offset) = backing offset
without_flag (zeros cluster copied) = zeros cluster false
without_flag (compressed offset length) = compressed offset length

-- two answers on what an offset reads as are the same but for that flag, or the same fault
abbrev pub ReadSame : Result Mapping Fault → Result Mapping Fault → Type 0
ReadSame one other = result_map without_flag one ≡ result_map without_flag other
