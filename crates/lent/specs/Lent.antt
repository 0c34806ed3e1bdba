-- The table that is lent.
use Rattle.tables.specs.Table as tables
use Rattle.lent.specs.declared.Table.{Table}

-- with its text, its slots and its counts
abbrev pub lent : Table → tables.Table
lent t = tables.table_of t.text.now t.links.now t.params.now t.counts.links t.counts.params
