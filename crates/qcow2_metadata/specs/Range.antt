-- Which bytes of an image are a range, and which ranges can it have?
use Rattle.std.specs.Prelude.{ℕ, ◌+◌, nat_lt, if◌then◌else◌, Option, Some, None, List, map}
use Rattle.std.specs.List.{range_with_len}
use Rattle.qcow2_base.specs.Format.{max_file_length}
use Rattle.qcow2_base.specs.Storage.{Image}
use Rattle.qcow2_base.specs.declared.fault.Fault.{Fault}
use Rattle.qcow2_base.specs.declared.fault.Fault.TheVariants.{TablePlace}

-- why that many bytes can't lie in an image from an offset on: they would end past the greatest end
abbrev pub range_fault : ℕ → ℕ → Option Fault
range_fault offset len = if nat_lt max_file_length (offset + len) then Some TablePlace else None

-- that many bytes of an image from an offset on
abbrev pub bytes_at : Image → ℕ → ℕ → List ℕ
bytes_at image offset len = map (λ i. image (offset + i)) (range_with_len 0 len)
