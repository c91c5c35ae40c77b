use Rattle.qcow2_metadata.specs.Header.Text.{header_read_back}
use Rattle.qcow2_metadata.proofs.WritableLemmas.{SaysSame-after, read_back-same, writable-same}
use Rattle.qcow2_metadata.proofs.laws.a_header_made_writable_says_the_same.Goals as goal

pub returns : goal.returns
returns c = λ header written is.
    let same = writable-same header written is in
    (same, SaysSame-after header written (header_read_back written) same (read_back-same written))
