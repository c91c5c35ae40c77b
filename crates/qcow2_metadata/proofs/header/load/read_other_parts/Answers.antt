use Rattle.std.proofs.Common.{Ok, inr, arith, map, option_map, rules, string_bytes, refl, sym, ◌∙◌, ◌-◌, ◌≡◌}
use Rattle.std.proofs.lemmas.Result.{err_from_is_err_and}
use Rattle.std.proofs.lemmas.List.{nil_from_length}
use Rattle.std.proofs.Math.Pow.{pow_mono}
use Rattle.qcow2_metadata.proofs.GrammarLemmas.{each-accepts, header_from, last-hold}
use Rattle.qcow2_metadata.proofs.LoadLemmas.{header-last, provided-fault}
use Rattle.qcow2_metadata.proofs.ExtensionsLemmas.{name-text}
use Rattle.qcow2_metadata.specs.Header.Extensions.{extension_of}
use Rattle.qcow2_metadata.specs.Header.Grammar.{AreValidParts, last_conditions}
use Rattle.qcow2_metadata.specs.Range.{bytes_at}
use Rattle.qcow2_metadata.proofs.header.load.read_other_parts.Goals as goal

pub read_bytes-requires : goal.read_bytes-requires
read_bytes-requires g c = grind (arith, pow_mono)

pub returns-in_err-check_extensions-clause-reads : goal.returns-in_err-check_extensions-clause-reads
returns-in_err-check_extensions-clause-reads g c =
    let image = (g.S.Storage.state c.args.image.now.image.now).byte_at in
    let one = c.in_ok-unknown_header_fields.ensures.reads.reads in
    let two = c.in_ok-backing_filename.ensures.reads.reads in
    let three = c.in_ok-extensions.ensures.reads.reads in
    let exit = err_from_is_err_and c.from_residual-in_err-check_extensions.result c.from_residual-in_err-check_extensions.ensures.1 in
    let name = option_map string_bytes c.in_ok-backing_filename.backing_filename in
    let extensions = map extension_of c.in_ok-extensions.extensions.items in
    let unknown_header_fields = bytes_at image 104 (c.args.base.header_length - 104) in
    rw (exit.1, exit.2) (record {
      reads = record {
        exact = λ told.
            let first = one.storage.device.tells ∙ told in
            let read = one.exact told in
            let fields : unknown_header_fields ≡ c.in_ok-unknown_header_fields.unknown_header_fields.items = grind (arith, read) in
            let named = rw one.storage.bytes at (two.exact first) in
            let extended = rw (two.storage.bytes ∙ one.storage.bytes) at (three.exact (two.storage.device.tells ∙ first)) in
            inr (inr (header-last c.args.accepted image c.args.v2 c.args.base name extensions named extended
            ∙ provided-fault (last_conditions c.args.accepted c.args.base unknown_header_fields extensions)
            (λ _. Ok (header_from image (c.args.v2, c.args.base) name extensions))
            c.in_err-check_extensions.field-0.0
            (rw (c.deref.ensures.value, c.deref-2.ensures.value, sym fields) at c.in_err-check_extensions.ensures.exact)));
        faults = search rules;
        storage = search rules;
      };
      same = search rules;
    })

pub invariant_of-result : goal.invariant_of-result
invariant_of-result g c =
    let parts : AreValidParts c.args.v2 c.args.base = c.requires in
    let fields = c.in_ok-unknown_header_fields.unknown_header_fields.items in
    let extensions = map extension_of c.in_ok-extensions.extensions.items in
    let exact = rw (c.deref.ensures.value, c.deref-2.ensures.value) at c.in_ok-check_extensions.ensures.exact in
    let hold = last-hold c.args.accepted c.args.base fields extensions tt tt (sym exact) in
    record {
      magic = parts.magic;
      version = parts.version;
      cluster_bits = parts.cluster_bits;
      refcount_order = parts.refcount_order;
      l1_table_aligned = parts.l1_table_aligned;
      reftable_aligned = parts.reftable_aligned;
      features = each-accepts c.args.accepted c.args.base hold.0.accepts.features;
      one_format = hold.0.one_format;
      one_data_file = hold.0.one_data_file;
      backing_filename = search (rules, name-text);
      storable = search rules;
      older = search (rules, nil_from_length);
    }
