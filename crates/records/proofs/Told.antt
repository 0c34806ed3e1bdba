-- What a record that was read tells.
use Prim.Native.Nat.{ℕ}
use mathlib.Core.Path.{◌≡◌}
use mathlib.Core.List.{List}
use Rattle.tables.specs.Table.{link_at}
use Rattle.records.specs.Slots.{IsLink, to_link}
use Rattle.records.specs.declared.LinkRecord.{LinkRecord}

-- the link that it stands for is the table's
pub link_told : {L : List ℕ} (P : List ℕ) {i : ℕ} {l : LinkRecord} → IsLink L i l → to_link P l ≡ link_at L P i
link_told P e = rw (e.from, e.to, e.first, e.count)
