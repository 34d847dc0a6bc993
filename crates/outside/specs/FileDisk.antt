-- What a disk over a file of the system tells, as functions of its fields: those that its methods' clauses name.
use Rattle.std.specs.Prelude.{ℕ, List}
use Rattle.outside.specs.declared.file_disk.FileDisk.{FileDisk}

-- two ticks for each call that was made
abbrev pub clock_of : FileDisk → ℕ
clock_of disk = disk.clock

-- a stop may leave anything
abbrev pub image_of : FileDisk → ℕ → List ℕ → Type 0
image_of disk m c = Unit {0}

-- how often it has failed
abbrev pub faults_of : FileDisk → ℕ
faults_of disk = disk.file.answers.faults

-- how many answers of the system it took, up to the last value that a u64 has
abbrev pub answers_of : FileDisk → ℕ
answers_of disk = disk.file.answers.count
