-- Joining headers: in order, with any SP and HTAB before and after each, and one comma between neighbours.
use Rattle.std.specs.Prelude.{ℕ, ◌+◌, ◌≡◌, true, List, [], ◌∷◌, ◌++◌, map, length}
use Rattle.octets.specs.Sets.{all, is_blank}
use Rattle.grammar.specs.Link.{Link}
use Rattle.grammar.specs.Grammar.{Extra}
use Rattle.grammar.specs.Kept.{Reading}
use Rattle.grammar.specs.Records.{link_records, param_records, count_params}

-- a header to be joined, with the SP and HTAB that stand before and after it
pub record Padded : Type 0 where
  pub left : List ℕ
  pub header : List ℕ
  pub right : List ℕ
  pub left_blank : all is_blank left ≡ true
  pub right_blank : all is_blank right ≡ true

abbrev pub padded : Padded → List ℕ
padded p = p.left ++ p.header ++ p.right

-- the join; of no headers it is the empty header
abbrev pub join : List Padded → List ℕ
join [] = []
join (p ∷ []) = padded p
join (p ∷ q ∷ ps) = padded p ++ 44 ∷ join (q ∷ ps)

-- Records of a header whose octets begin at place k of the join, and whose parameters at number m: octet places are raised by k,
-- numbers of a first parameter by m, and all else, forms and codes among it, is unchanged.
abbrev pub raise_links : ℕ → ℕ → List ℕ → List ℕ
raise_links k m [] = []
raise_links k m (a ∷ []) = []
raise_links k m (a ∷ b ∷ []) = []
raise_links k m (a ∷ b ∷ n ∷ []) = []
raise_links k m (a ∷ b ∷ n ∷ c ∷ rs) = (k + a) ∷ (k + b) ∷ (m + n) ∷ c ∷ raise_links k m rs

abbrev pub raise_params : ℕ → List ℕ → List ℕ
raise_params k [] = []
raise_params k (a ∷ []) = []
raise_params k (a ∷ b ∷ []) = []
raise_params k (a ∷ b ∷ c ∷ []) = []
raise_params k (a ∷ b ∷ c ∷ d ∷ []) = []
raise_params k (a ∷ b ∷ c ∷ d ∷ f ∷ []) = []
raise_params k (a ∷ b ∷ c ∷ d ∷ f ∷ n ∷ rs) = (k + a) ∷ (k + b) ∷ (k + c) ∷ (k + d) ∷ f ∷ n ∷ raise_params k rs

module _ (extra : Extra) where
  -- a header of a join, with the reading that it has by itself, limits of length and room aside
  pub record Readable : Type 0 where
    pub pad : Padded
    pub reading : List Link
    pub reads : Reading extra pad.header reading

  -- the join's records: the headers' own, in order, where k octets and m parameters stand before the first of them
  abbrev pub joined_links : ℕ → ℕ → List Readable → List ℕ
  joined_links k m [] = []
  joined_links k m (a ∷ hs) =
      raise_links (k + length a.pad.left) m (link_records 0 a.reading)
      ++ joined_links (k + length (padded a.pad) + 1) (m + count_params a.reading) hs

  abbrev pub joined_params : ℕ → List Readable → List ℕ
  joined_params k [] = []
  joined_params k (a ∷ hs) =
      raise_params (k + length a.pad.left) (param_records a.pad.header a.reading)
      ++ joined_params (k + length (padded a.pad) + 1) hs

  -- the sums of the counts
  abbrev pub link_sum : List Readable → ℕ
  link_sum [] = 0
  link_sum (a ∷ hs) = length a.reading + link_sum hs

  abbrev pub param_sum : List Readable → ℕ
  param_sum [] = 0
  param_sum (a ∷ hs) = count_params a.reading + param_sum hs

  -- how the join of headers that have readings reads
  pub record JoinReads (hs : List Readable) : Type 0 where
    pub links : List Link
    pub reads : Reading extra (join (map (λ (a : Readable). a.pad) hs)) links
    pub records_of_links : link_records 0 links ≡ joined_links 0 0 hs
    pub records_of_params : param_records (join (map (λ (a : Readable). a.pad) hs)) links ≡ joined_params 0 hs
    pub link_count : length links ≡ link_sum hs
    pub param_count : count_params links ≡ param_sum hs
