-- A text with its tables and counts, and the links that the tables record.
use Rattle.std.specs.Prelude.{ℕ, zero, suc, ◌+◌, ◌*◌, List, [], ◌∷◌, get_or}
use Rattle.grammar.specs.Records.{link_width, param_width}
use Rattle.grammar.specs.Link.{Link, Param}

-- A table as it is lent: the text that its places count in, the slots of both tables, and how many records they hold.
pub record Table : Type 0 where
  pub text : List ℕ
  pub link_slots : List ℕ
  pub param_slots : List ℕ
  pub link_count : ℕ
  pub param_count : ℕ

-- the table of what an entry over it is lent
abbrev pub table_of : List ℕ → List ℕ → List ℕ → ℕ → ℕ → Table
table_of text links params n m =
    record { text = text; link_slots = links; param_slots = params; link_count = n; param_count = m }

-- parameter record number j, as the parameter that it records
abbrev pub param_at : List ℕ → ℕ → Param
param_at P j =
    record {
      name_from = get_or P (param_width * j) 0;
      name_to = get_or P (param_width * j + 1) 0;
      value_from = get_or P (param_width * j + 2) 0;
      value_to = get_or P (param_width * j + 3) 0;
      form = get_or P (param_width * j + 4) 0;
    }

-- its last number: the code that it has for its name
abbrev pub code_at : List ℕ → ℕ → ℕ
code_at P j = get_or P (param_width * j + 5) 0

-- n parameter records from number j on
abbrev pub params_from : List ℕ → ℕ → ℕ → List Param
params_from P j zero = []
params_from P j (suc n) = param_at P j ∷ params_from P (suc j) n

-- of link record number i: number of the first parameter, and count of parameters
abbrev pub first_of : List ℕ → ℕ → ℕ
first_of L i = get_or L (link_width * i + 2) 0

abbrev pub count_of : List ℕ → ℕ → ℕ
count_of L i = get_or L (link_width * i + 3) 0

-- link number i, with the parameters that the table records for it
abbrev pub link_at : List ℕ → List ℕ → ℕ → Link
link_at L P i =
    record { target_from = get_or L (link_width * i) 0; target_to = get_or L (link_width * i + 1) 0; params = params_from P (first_of L i) (count_of L i) }

-- n links from number i on
abbrev pub links_from : List ℕ → List ℕ → ℕ → ℕ → List Link
links_from L P i zero = []
links_from L P i (suc n) = link_at L P i ∷ links_from L P (suc i) n

-- the links of a table, in order
abbrev pub links_of : Table → List Link
links_of t = links_from t.link_slots t.param_slots 0 t.link_count
