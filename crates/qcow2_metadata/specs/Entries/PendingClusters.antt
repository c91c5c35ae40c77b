-- When are pending clusters a cluster alone?
use Rattle.std.specs.Prelude.{◌≡◌}
use Rattle.qcow2_base.specs.declared.types.HostCluster.{HostCluster}
use Rattle.qcow2_metadata.specs.declared.entries.ClustersToFreeEntry.{ClustersToFreeEntry}

-- pending clusters are a cluster alone
abbrev pub IsOneCluster : ClustersToFreeEntry → HostCluster → Type 0
IsOneCluster pending cluster = (pending.first ≡ cluster) × (pending.count.0 ≡ 1)
