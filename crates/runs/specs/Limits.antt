-- How many open nodes, waiting numbers and accepted openings a run has at most.
use Rattle.std.specs.Prelude.{ℕ}

abbrev pub depth_limit : ℕ
depth_limit = 128

abbrev pub waiting_limit : ℕ
waiting_limit = 64

abbrev pub openings_limit : ℕ
openings_limit = 1000000
