-- What a disk in memory tells, as functions of its fields: those that its methods' clauses name.
use Rattle.std.specs.Prelude.{◌*◌, ℕ, List, length, Option, Some}
use Rattle.outside.specs.declared.memory_disk.MemDisk.{MemDisk}
use Rattle.outside.specs.Replay.{IsImage}

-- the bytes as reads give them
abbrev pub tells_of : MemDisk → Option (List ℕ)
tells_of disk = Some disk.bytes.items

-- two ticks for each call that was made
abbrev pub clock_of : MemDisk → ℕ
clock_of disk = 2 * length disk.calls.items

-- what a stop at this moment may leave
abbrev pub image_of : MemDisk → ℕ → List ℕ → Type 0
image_of disk m c = IsImage disk.first.items disk.calls.items m c

-- how often it has failed
abbrev pub faults_of : MemDisk → ℕ
faults_of disk = disk.faults
