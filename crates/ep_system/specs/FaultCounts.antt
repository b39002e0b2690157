-- How many faults a real object has counted.
use Rattle.std.specs.Prelude.{ℕ}
use Rattle.ep_system.specs.declared.faults.FaultCount.{FaultCount}

abbrev pub faults_of : FaultCount → ℕ
faults_of c = c.count
