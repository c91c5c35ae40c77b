use Rattle.std.proofs.Common.{rules, ◌≡◌, ◌++◌, ◌∷◌, map, option_map, string_bytes}
use Rattle.std.specs.Prelude.{option_to_list}
use Rattle.qcow2_metadata.specs.Header.{known_names}
use Rattle.qcow2_metadata.specs.declared.header.extensions.HeaderExtensionType.TheVariants as kind
use Rattle.qcow2_metadata.specs.Header.Extensions.{FeatureNameTable, extension_of, TextOf}
use Rattle.qcow2_metadata.proofs.ExtensionsLemmas.{name-text, new_extensions-storable}
use Rattle.qcow2_metadata.proofs.header.Header.new.Goals as goal

pub invariant_of-result : goal.invariant_of-result
invariant_of-result c =
    let same : map extension_of c.match-external_data_file-4.extensions.items
    ≡ FeatureNameTable known_names
    ∷ map (TextOf kind.BackingFileFormat) (option_to_list (option_map string_bytes c.args.backing_format))
    ++ map (TextOf kind.ExternalDataFileName) (option_to_list (option_map string_bytes c.args.external_data_file)) = search rules in
    record {
      magic = search rules;
      version = search rules;
      cluster_bits = search rules;
      refcount_order = search rules;
      l1_table_aligned = search rules;
      reftable_aligned = search rules;
      features = search rules;
      one_format = search rules;
      one_data_file = search rules;
      backing_filename = name-text c.args.backing_filename;
      storable = rw same (new_extensions-storable c.args.backing_format c.args.external_data_file);
      older = search rules;
    }
