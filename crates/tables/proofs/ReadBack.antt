-- Reading back: what is written for a good table is derived again, keeps all its parameters, and means the same.
use Prim.Native.Nat.{ℕ, zero, suc, ◌+◌, ◌≤◌}
use native.Mathlib.Nat.{zero-add}
use native.Mathlib.Omega.{arith}
use mathlib.Core.Path.{◌≡◌, refl, sym, ap, ap₂, subst, ◌∙◌}
use mathlib.Core.Bool.{Bool, true, false, ◌&&◌, ◌||◌, not, false≢true}
use mathlib.Core.List.{List, [], ◌∷◌, map}
use lib.ListN.{length, get_or, length-map}
use lib.Seq.{slice, slice_empty, slice-cons}
use Rattle.octets.specs.Sets.{all, is_token, is_escapable, is_older}
use Rattle.octets.specs.Fold.{folded}
use Rattle.octets.specs.Editions.{further}
use Rattle.octets.specs.declared.editions.Edition.TheVariants.{Rfc8288, Rfc5988}
use Rattle.octets.proofs.Laws.{fold_token, token_plain, plain_escapable}
use Rattle.octets.proofs.Octets.{both}
use Rattle.octets.proofs.Further.{older_plain}
use Rattle.grammar.specs.Link.{Link, Param}
use Rattle.grammar.specs.Grammar.{Token, is_bare, Run, run_end, run_more}
use Rattle.references.specs.AppendixA.{IsReference}
use Rattle.grammar.specs.Targets.{References}
use Rattle.grammar.specs.Kept.{name_of, among, is_once, unless, keep_after, kept_link, Reading}
use Rattle.grammar.specs.Records.{count_params}
use Rattle.grammar.proofs.Readings.{one_reading}
use Rattle.grammar.proofs.Editions.{apart, reading_alike}
use Rattle.tables.specs.Table.{Table, params_from, first_of, count_of, links_from, links_of}
use Rattle.tables.specs.Good.{
  Each,
  each_none,
  each_more,
  once_each,
  GoodValue,
  no_value,
  token_value,
  quoted_value,
  wider_value,
  GoodParam,
  GoodLink,
  Good,
  Follows,
}
use Rattle.tables.specs.Meaning.{
  unescape,
  value_of,
  ParamMeaning,
  param_meaning,
  LinkMeaning,
  link_meaning,
  meanings,
  table_meanings,
}
use Rattle.tables.specs.Written.{written}
use Rattle.tables.specs.Laws.{ReadsBack, ReadBack, WrittenTells}
use Rattle.tables.proofs.Texts.{folded_folded, run_text, target_text, inside_text, run_le, wider_run}
use Rattle.tables.proofs.GoodAlike.{good_alike}
use Rattle.tables.proofs.Back.{NameText, name_text, ParamText, LinkText, links_back}

-- ---- the meanings of a good table can be written and read again

all_mono : {f g : ℕ → Bool} → ((c : ℕ) → f c ≡ true → g c ≡ true) → (xs : List ℕ) → all f xs ≡ true → all g xs ≡ true
all_mono h [] e = refl
all_mono {f} h (c ∷ xs) e = let x = both (f c) (all f xs) e in rw (h c x.0, all_mono h xs x.1)

all_folded : (xs : List ℕ) → all is_token xs ≡ true → all is_token (folded xs) ≡ true
all_folded [] e = refl
all_folded (c ∷ xs) e =
    let x = both (is_token c) (all is_token xs) e in
    rw (fold_token c x.0, all_folded xs x.1)

-- an octet of a bare value may stand in a quoted string
bare_escapable : (c : ℕ) → is_bare (further Rfc5988) c ≡ true → is_escapable c ≡ true
bare_escapable c h = go (is_token c) refl h
  where
    go : (b : Bool) → is_token c ≡ b → (b || is_older c) ≡ true → is_escapable c ≡ true
    go true e h = plain_escapable c (token_plain c e)
    go false e h = plain_escapable c (older_plain c h)

module _ (s : List ℕ) where
  folded_name : {a e : ℕ} → e ≤ length s → Token s a e → NameText (folded (slice a e s))
  folded_name {a} {e} k n =
      let whole : Run s is_token a e = run_more n.first n.rest in
      let front : slice a e s ≡ get_or s a 0 ∷ slice (suc a) e s = slice-cons a e s 0 (run_le s n.rest) k in
      rw front
      (name_text (all_folded (get_or s a 0 ∷ slice (suc a) e s) (rw front at (run_text s k whole)))
      (folded_folded (get_or s a 0 ∷ slice (suc a) e s)))

  value_text : {p : Param} → p.value_to ≤ length s → GoodValue (further Rfc5988) s p → all is_escapable (value_of s p) ≡ true
  unfolding value_of unescape
  value_text {p} k (no_value f a b) = rw (f, a, b, slice_empty p.name_to s) refl
  value_text {p} k (token_value f t) =
      rw f
      (all_mono (λ c h. plain_escapable c (token_plain c h)) (slice p.value_from p.value_to s)
      (run_text s k (run_more t.first t.rest)))
  value_text {p} k (quoted_value f t) = rw f (inside_text s k t)
  value_text {p} k (wider_value f w) =
      rw f (all_mono bare_escapable (slice p.value_from p.value_to s) (run_text s k (wider_run s w)))

  param_text : {p : Param} → GoodParam (further Rfc5988) s p → ParamText (param_meaning s p)
  unfolding name_of
  param_text g = record { name = folded_name g.name_span.inside g.name; value = value_text g.value_span.inside g.value }

  params_text : {ps : List Param} → Each (GoodParam (further Rfc5988) s) ps → Each ParamText (map (param_meaning s) ps)
  params_text each_none = each_none
  params_text (each_more g r) = each_more (param_text g) (params_text r)

  links_text : {ls : List Link} → Each (GoodLink (further Rfc5988) s) ls → Each LinkText (meanings s ls)
  links_text each_none = each_none
  links_text (each_more g r) =
      each_more (record { target = target_text s g.target_span.inside g.target; params = params_text g.params })
      (links_text r)

-- ---- its targets are references

Referring : LinkMeaning → Type 0
Referring m = IsReference m.target

-- the octets of a target are its meaning
good_refers : (s : List ℕ) {ls : List Link} → Each (GoodLink (further Rfc5988) s) ls → Each Referring (meanings s ls)
unfolding Referring
good_refers s each_none = each_none
good_refers s (each_more g r) = each_more g.reference (good_refers s r)

refers : (s : List ℕ) (ls : List Link) → Each Referring (meanings s ls) → References s ls
unfolding Referring
refers s [] each_none = tt
refers s (l ∷ ls) (each_more r rs) = (r, refers s ls rs)

-- ---- of its parameters all are kept

-- no two of the meanings, nor one of them and one of the names `earlier`, share a name kept once
once_of : List (List ℕ) → List ParamMeaning → Bool
once_of earlier [] = true
once_of earlier (m ∷ ms) = not (is_once m.name && among earlier m.name) && once_of (m.name ∷ earlier) ms

Once : LinkMeaning → Type 0
Once m = once_of [] m.params ≡ true

module _ (s : List ℕ) where
  once_meanings : (earlier : List (List ℕ)) (ps : List Param) → once_of earlier (map (param_meaning s) ps) ≡ once_each s earlier ps
  unfolding once_of
  once_meanings earlier [] = refl
  once_meanings earlier (p ∷ ps) = rw (once_meanings (name_of s p ∷ earlier) ps)

  all_once : {ls : List Link} → Each (GoodLink (further Rfc5988) s) ls → Each Once (meanings s ls)
  unfolding Once
  all_once each_none = each_none
  all_once (each_more {x = l} g r) = each_more (once_meanings [] l.params ∙ g.once) (all_once r)

  keeps : (earlier : List (List ℕ)) (ps : List Param) → once_each s earlier ps ≡ true → keep_after s earlier ps ≡ ps
  keeps earlier [] e = refl
  keeps earlier (p ∷ ps) e = go (is_once (name_of s p) && among earlier (name_of s p)) e (keeps (name_of s p ∷ earlier) ps)
    where
      go : (b : Bool) → (not b && once_each s (name_of s p ∷ earlier) ps) ≡ true
          → (once_each s (name_of s p ∷ earlier) ps ≡ true → keep_after s (name_of s p ∷ earlier) ps ≡ ps)
          → unless b p (keep_after s (name_of s p ∷ earlier) ps) ≡ p ∷ ps
      go true e rest = absurd (false≢true e)
      go false e rest = ap (λ (x : List Param). p ∷ x) (rest e)

  keeps_all : (ls : List Link) → Each Once (meanings s ls) → map (kept_link s) ls ≡ ls
  unfolding Once
  keeps_all [] each_none = refl
  keeps_all (l ∷ ls) (each_more o r) =
      ap₂ (λ (ps : List Param) (ms : List Link). record { target_from = l.target_from; target_to = l.target_to; params = ps } ∷ ms)
      (keeps [] l.params (sym (once_meanings [] l.params) ∙ o)) (keeps_all ls r)

-- ---- the counts

links_length : (L P : List ℕ) (i n : ℕ) → length (links_from L P i n) ≡ n
links_length L P i zero = refl
links_length L P i (suc n) = ap suc (links_length L P (suc i) n)

params_length : (P : List ℕ) (j n : ℕ) → length (params_from P j n) ≡ n
params_length P j zero = refl
params_length P j (suc n) = ap suc (params_length P (suc j) n)

followed : (L P : List ℕ) (i n at m : ℕ) → Follows L i n at m → at + count_params (links_from L P i n) ≡ m
followed L P i zero at m f = omega arith
followed L P i (suc n) at m f =
    omega (arith, params_length P (first_of L i) (count_of L i), followed L P (suc i) n (at + count_of L i) m f.1)

count_of_meanings : List LinkMeaning → ℕ
count_of_meanings [] = 0
count_of_meanings (m ∷ ms) = length m.params + count_of_meanings ms

count_meant : (s : List ℕ) (ls : List Link) → count_of_meanings (meanings s ls) ≡ count_params ls
unfolding count_of_meanings
count_meant s [] = refl
count_meant s (l ∷ ls) = rw (length-map l.params (param_meaning s), count_meant s ls)

back : (t : Table) → Good (further Rfc5988) t → ReadsBack t
back t g =
    let ms = table_meanings t in
    let b = links_back (written ms) 0 (links_text t.text g.links) (omega arith) refl in
    let once : Each Once (meanings (written ms) b.links) =
    subst (λ (x : List LinkMeaning). Each Once x) (sym b.means) (all_once t.text g.links)
    in
    record {
      links = b.links;
      reads =
          λ d. reading_alike (further d)
          (record {
            links = b.links;
            derived =
                record {
                  start = 0;
                  stop = b.stop;
                  end = b.stop;
                  before = run_end;
                  items = b.derived;
                  after = run_end;
                  whole = b.ended;
                };
            references =
                refers (written ms) b.links
                (subst (λ (x : List LinkMeaning). Each Referring x) (sym b.means) (good_refers t.text g.links));
            kept = sym (keeps_all (written ms) b.links once);
          });
      link_count =
          sym (length-map b.links (link_meaning (written ms))) ∙ ap length b.means
          ∙ length-map (links_of t) (link_meaning t.text) ∙ links_length t.link_slots t.param_slots 0 t.link_count;
      param_count =
          sym (count_meant (written ms) b.links) ∙ ap count_of_meanings b.means ∙ count_meant t.text (links_of t)
          ∙ sym (zero-add _) ∙ followed t.link_slots t.param_slots 0 t.link_count 0 t.param_count g.follows;
      same_meanings = b.means;
    }

pub read_back : ReadBack
read_back e t g = back t (good_alike e t g)

pub written_tells : WrittenTells
written_tells e d t u g h q =
    let a = read_back e t g in
    let b = read_back d u h in
    let w = written (table_meanings t) in
    let reads : Reading (further Rfc8288) w b.links =
    subst (λ (x : List ℕ). Reading (further Rfc8288) x b.links) (sym q) (b.reads Rfc8288)
    in
    let same : meanings w b.links ≡ table_meanings u =
    subst (λ (x : List ℕ). meanings x b.links ≡ table_meanings u) (sym q) b.same_meanings
    in
    sym a.same_meanings ∙ ap (meanings w)
    (one_reading (further Rfc8288) (apart Rfc8288) w a.links b.links (a.reads Rfc8288) reads)
    ∙ same
