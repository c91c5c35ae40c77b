use Rattle.std.proofs.Common.{◌≡◌, ◌%◌, ◌^◌, true, false, sym, ◌∙◌, arith}
use Rattle.std.proofs.lemmas.Bool.Decides.{nat_tests}
use Rattle.qcow2_metadata.specs.Entries.L2Entry.{is_allocated, is_compressed}
use Rattle.qcow2_metadata.proofs.RunsLemmas.{after_a_compressed_entry, after_an_entry_with_a_cluster, after_an_entry_without_one, after_an_external_entry_without_one, step_fits}
use Rattle.qcow2_bytes.proofs.tables.EntryPattern.of.Goals.{else-field-ne0+else-external, else-field-ne0+then-external, in-false-false, in-false-true, in-true-default, then-field-ne0}
use Rattle.qcow2_bytes.proofs.tables.EntryPattern.of.Goals as goal

pub returns-then-field-eq1-clause-exact : goal.returns-then-field-eq1-clause-exact
returns-then-field-eq1-clause-exact c = λ k v c' other some few fits lawful.
    let packed : is_compressed c.args.entry ≡ true = grind (arith, nat_tests, c.if-field-eq1.true, c.field.ensures.value) in
    after_a_compressed_entry c.args.cluster_bits c.args.external k v c.args.entry c' other packed

pub returns-clause-exact : goal.returns-clause-exact
returns-clause-exact c = λ k v c' other some few fits lawful.
    let cb = c.args.cluster_bits in
    let external = c.args.external in
    let entry = c.args.entry in
    let standard : is_compressed entry ≡ false = grind (arith, nat_tests, c.if-field-eq1.false, c.field.ensures.value) in
    let told : c.if-field-ne0.is_allocated ≡ is_allocated external entry = elim c.if-field-ne0.branch [
      | then-field-ne0 w ↦ grind (arith, nat_tests, w.is_allocated-is, w.if-field-ne0.true, c.field-2.ensures.value)
      | else-field-ne0+then-external w ↦ grind (arith, nat_tests, w.is_allocated-is, w.if-field-ne0.false, c.field-2.ensures.value, w.if-external.true, w.field-then-external.ensures.value)
      | else-field-ne0+else-external w ↦ grind (arith, nat_tests, w.is_allocated-is, w.if-field-ne0.false, c.field-2.ensures.value, w.if-external.false)
    ] in
    let value : c.field-3.result ≡ entry % 2 ^ 63 = omega (arith, c.field-3.ensures.value) in
    elim c.if-is_allocated.branch [
      | in-true-default w ↦
          let allocated : is_allocated external entry ≡ true = sym told ∙ w.in-true-default.is-0 in
          rw (w.mask-is, value, step_fits cb c.requires.bits.1)
          (after_an_entry_with_a_cluster cb external k v entry c' other c.requires.bits.1 c.requires.bits.0 some few fits lawful c.requires.lawful standard allocated)
      | in-false-true w ↦
          let is_external : external ≡ true = w.in-false-true.is-1 in
          let none : is_allocated true entry ≡ false = rw is_external at (sym told ∙ w.in-false-true.is-0) in
          rw (w.mask-is, value, is_external)
          (after_an_external_entry_without_one cb k v entry c' other fits lawful c.requires.lawful standard none)
      | in-false-false w ↦
          let is_internal : external ≡ false = w.in-false-false.is-1 in
          let none : is_allocated false entry ≡ false = rw is_internal at (sym told ∙ w.in-false-false.is-0) in
          rw (w.mask-is, value, is_internal)
          (after_an_entry_without_one cb k v entry c' other lawful c.requires.lawful standard none)
    ]
