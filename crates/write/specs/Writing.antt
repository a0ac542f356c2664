-- What a buffer holds after a deck was to be written into it.
use Rattle.std.specs.Prelude.{ℕ, cond, List, ◌++◌, length, drop, replicate, Ok, Err, Result, nat_le}
use Rattle.output.specs.declared.out.Full.{Full}
use Rattle.output.specs.Outputs.{full}

-- how many bytes are written into a buffer, or that they do not fit
abbrev pub fitted : List ℕ → List ℕ → Result ℕ Full
fitted bs before = cond (nat_le (length bs) (length before)) (Ok (length bs)) (Err full)

-- the bytes at the front and the rest as it was; zeros where they do not fit
abbrev pub filled : List ℕ → List ℕ → List ℕ
filled bs before = cond (nat_le (length bs) (length before)) (bs ++ drop (length bs) before) (replicate (length before) 0)
