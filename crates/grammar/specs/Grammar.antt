-- The grammar of a Link field value: what derives what, and the spans that each derivation gives.
-- Everything is said of a fixed text s: `X s i j` is "X derives the octets of s from place i up to place j".
use Rattle.std.specs.Prelude.{ℕ, suc, ◌<◌, ◌≡◌, Bool, true, false, ◌||◌, List, [], ◌∷◌, ◌++◌, length, get_or}
use Rattle.octets.specs.Sets.{is_blank, is_token, is_plain, is_escapable, is_target, is_hex}
use Rattle.grammar.specs.Link.{Link, Param}

module _ (s : List ℕ) where
  -- at place i stands the octet c
  pub record At (i c : ℕ) : Type 0 where
    pub inside : i < length s
    pub is : get_or s i 0 ≡ c

  -- at place i stands an octet of the set f
  pub record In (f : ℕ → Bool) (i : ℕ) : Type 0 where
    pub inside : i < length s
    pub is : f (get_or s i 0) ≡ true

  -- zero or more octets of the set f
  pub data Run (f : ℕ → Bool) : ℕ → ℕ → Type 0 where
    run_end : {i : ℕ} → Run f i i
    run_more : {i j : ℕ} → In f i → Run f (suc i) j → Run f i j

  -- one or more octets of the set f
  pub record Some (f : ℕ → Bool) (i j : ℕ) : Type 0 where
    pub first : In f i
    pub rest : Run f (suc i) j

  -- OWS and BWS: any run of SP and HTAB, also none
  abbrev pub Blanks : ℕ → ℕ → Type 0
  Blanks = Run is_blank

  -- a token, and so a name
  abbrev pub Token : ℕ → ℕ → Type 0
  Token = Some is_token

  -- the inside of a quoted string: plain octets, and pairs of a backslash and an octet that it may stand before
  pub data Inside : ℕ → ℕ → Type 0 where
    inside_end : {i : ℕ} → Inside i i
    plain : {i j : ℕ} → In is_plain i → Inside (suc i) j → Inside i j
    pair : {i j : ℕ} → At i 92 → In is_escapable (suc i) → Inside (suc (suc i)) j → Inside i j

  -- a target: target octets, and triples of `%` and two hex digits
  pub data Target : ℕ → ℕ → Type 0 where
    target_end : {i : ℕ} → Target i i
    octet : {i j : ℕ} → In is_target i → Target (suc i) j → Target i j
    triple : {i j : ℕ} → At i 37 → In is_hex (suc i) → In is_hex (suc (suc i)) → Target (suc (suc (suc i))) j → Target i j

-- The octets that a bare value may hold beside token octets: what editions of the grammar differ in (`octets/Editions.further` has
-- those of each edition; RFC 8288's has none, so that its bare values are tokens and it never gives form 3).
abbrev pub Extra : Type 0
Extra = ℕ → Bool

-- what the laws ask of an edition: its further octets are no token octets and none of those that end or begin a value
pub record Admissible (extra : Extra) : Type 0 where
  pub token : (c : ℕ) → extra c ≡ true → is_token c ≡ false
  pub space : extra 32 ≡ false
  pub tab : extra 9 ≡ false
  pub quote : extra 34 ≡ false
  pub comma : extra 44 ≡ false
  pub semicolon : extra 59 ≡ false
  pub octets : (c : ℕ) → extra c ≡ true → c < 256

-- an octet of a bare value
abbrev pub is_bare : Extra → ℕ → Bool
is_bare extra c = is_token c || extra c

module _ (extra : Extra) (s : List ℕ) where
  -- a bare value that holds an octet outside a token; the one at k is the first
  pub data Wider : ℕ → ℕ → Type 0 where
    from_token : {i k j : ℕ} → Run s is_token i k → In s extra k → Run s (is_bare extra) (suc k) j → Wider i j

  -- a value, with its span's start and end and its form: a token is form 1, a quoted string form 2, and a bare value with any octet
  -- outside a token form 3
  pub data Value : ℕ → ℕ → ℕ → ℕ → ℕ → Type 0 where
    token : {i j : ℕ} → Token s i j → Value i j i j 1
    quoted : {i k : ℕ} → At s i 34 → Inside s (suc i) k → At s k 34 → Value i (suc k) (suc i) k 2
    wider : {i j : ℕ} → Wider i j → Value i j i j 3

  -- a parameter: a name and BWS, then optionally `=`, BWS and a value
  pub data Parameter : ℕ → ℕ → Param → Type 0 where
    valueless : {i e j : ℕ} → Token s i e → Blanks s e j
        → Parameter i j (record { name_from = i; name_to = e; value_from = e; value_to = e; form = 0 })
    valued : {i e k v j a b f : ℕ} → Token s i e → Blanks s e k → At s k 61 → Blanks s (suc k) v → Value v j a b f
        → Parameter i j (record { name_from = i; name_to = e; value_from = a; value_to = b; form = f })

  -- zero or more of OWS, `;`, OWS and a parameter
  pub data Parameters : ℕ → ℕ → List Param → Type 0 where
    no_more : {i : ℕ} → Parameters i i []
    and_one : {i a b c j : ℕ} {p : Param} {ps : List Param} → Blanks s i a → At s a 59 → Blanks s (suc a) b → Parameter b c p
        → Parameters c j ps → Parameters i j (p ∷ ps)

  -- a link: `<`, a target, `>`, and its parameters
  pub data OneLink : ℕ → ℕ → Link → Type 0 where
    link : {i k j : ℕ} {ps : List Param} → At s i 60 → Target s (suc i) k → At s k 62 → Parameters (suc k) j ps
        → OneLink i j (record { target_from = suc i; target_to = k; params = ps })

  -- an item of the comma list: empty, or one link
  pub data Item : ℕ → ℕ → List Link → Type 0 where
    empty : {i : ℕ} → Item i i []
    one : {i j : ℕ} {l : Link} → OneLink i j l → Item i j (l ∷ [])

  -- a comma list: items parted by commas, with OWS round each comma
  pub data Items : ℕ → ℕ → List Link → Type 0 where
    last : {i j : ℕ} {ls : List Link} → Item i j ls → Items i j ls
    comma : {i a b c j : ℕ} {ls ms : List Link} → Item i a ls → Blanks s a b → At s b 44 → Blanks s (suc b) c → Items c j ms
        → Items i j (ls ++ ms)

  -- a field value: a comma list, with SP and HTAB at both ends not counted
  pub record Field (R : List Link) : Type 0 where
    pub start : ℕ
    pub stop : ℕ
    pub end : ℕ
    pub before : Blanks s 0 start
    pub items : Items start stop R
    pub after : Blanks s stop end
    pub whole : end ≡ length s
