-- What a table of cuts says.
use Rattle.std.specs.Prelude.{List}
use Rattle.cuts.specs.declared.cut.Cut.{Cut}
use Rattle.cuts.specs.declared.table.CutTable.{CutTable}

-- the cuts of a table, in order
abbrev pub cuts_of : CutTable → List Cut
cuts_of t = t.cuts.items
