use Rattle.std.proofs.Common.{◌≡◌, ◌-◌, ◌*◌, ◌/◌, ◌%◌, ◌^◌, ◌≤◌, arith, pow_mono}
use Rattle.qcow2_metadata.proofs.RunsLemmas.{step_fits}
use Rattle.qcow2_bytes.proofs.TablesLemmas.{entry_masks, high_fits, offsets_fit}
use Rattle.qcow2_bytes.proofs.entries.is_entry.Goals as goal

pub overflow_sub-standard : goal.overflow_sub-standard
overflow_sub-standard c =
    let power : 2 ^ 9 ≤ 2 ^ c.args.cluster_bits = pow_mono c.requires.0 in
    rw (step_fits c.args.cluster_bits c.requires.1) (omega (arith, power))

pub overflow_add-compressed : goal.overflow_add-compressed
overflow_add-compressed c =
    let high = high_fits c.args.cluster_bits c.requires in
    rw (offsets_fit c.args.cluster_bits c.requires) (omega (arith, high))

pub returns : goal.returns
returns c =
    let cb = c.args.cluster_bits in
    let high = high_fits cb c.requires in
    let same : (2 ^ (70 - cb) - 1) / 2 ^ 56 * 2 ^ 56 % 2 ^ 64 ≡ (2 ^ (70 - cb) - 1) / 2 ^ 56 * 2 ^ 56 = omega (arith, high) in
    rw (offsets_fit cb c.requires, step_fits cb c.requires.1, same) (entry_masks cb c.args.entry c.requires c.ranges.entry.fits)
