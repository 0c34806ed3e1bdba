-- What is read is a good table.
use Prim.Native.Nat.{ℕ}
use native.Mathlib.Omega.{arith}
use mathlib.Core.Path.{◌≡◌, refl, sym, ap, ◌∙◌}
use mathlib.Core.Bool.{Bool, true, false, ◌&&◌, ◌||◌}
use mathlib.Core.List.{List, [], ◌∷◌, map}
use lib.ListN.{length-append}
use Rattle.octets.specs.Fold.{same}
use Rattle.octets.proofs.Laws.{same_sound}
use Rattle.grammar.specs.Link.{Link, Param}
use Rattle.grammar.specs.Grammar
use Rattle.grammar.specs.Grammar.{
  Extra,
  Token,
  Value,
  token,
  quoted,
  wider,
  Parameter,
  valueless,
  valued,
  Parameters,
  no_more,
  and_one,
}
use Rattle.grammar.specs.Grammar.{link, empty, one, Items, last, comma}
use Rattle.grammar.specs.Targets.{ReferenceAt, References}
use Rattle.grammar.specs.Kept.{name_of, among, is_once, unless, keep_after, kept_link}
use Rattle.grammar.specs.Records.{link_records, param_records}
use Rattle.grammar.proofs.Spans.{run_inside}
use Rattle.tables.specs.Good.{
  Each,
  each_none,
  each_more,
  once_each,
  InText,
  no_value,
  token_value,
  quoted_value,
  wider_value,
  GoodParam,
  GoodLink,
}
use Rattle.tables.specs.Laws.{ReadGood}
use Rattle.tables.proofs.Texts.{run_le, inside_le, target_le, wider_run, wider_inside}
use Rattle.tables.proofs.Filled.{filled_links, filled_follows, filled_codes, link_records_length, param_records_length}

module _ (extra : Extra) (s : List ℕ) where
  -- ---- each parameter that a derivation gives is good

  token_span : {i j : ℕ} → Token s i j → InText s i j
  token_span t = record { ordered = omega (arith, run_le s t.rest); inside = run_inside s t.first.inside t.rest }

  value_good : {n e i j a b f : ℕ} → Token s n e → Value extra s i j a b f
      → GoodParam extra s (record { name_from = n; name_to = e; value_from = a; value_to = b; form = f })
  value_good n (token t) =
      record { name_span = token_span n; value_span = token_span t; name = n; value = token_value refl t }
  value_good n (quoted q t k) =
      record {
        name_span = token_span n;
        value_span = record { ordered = inside_le s t; inside = omega (arith, k.inside) };
        name = n;
        value = quoted_value refl t;
      }
  value_good n (wider w) =
      record {
        name_span = token_span n;
        value_span = record { ordered = run_le s (wider_run s w); inside = wider_inside s w };
        name = n;
        value = wider_value refl w;
      }

  param_good : {i j : ℕ} {p : Param} → Parameter extra s i j p → GoodParam extra s p
  param_good (valueless n bl) =
      record {
        name_span = token_span n;
        value_span = record { ordered = omega arith; inside = (token_span n).inside };
        name = n;
        value = no_value refl refl refl;
      }
  param_good (valued n bl q cl v) = value_good n v

  params_good : {i j : ℕ} {ps : List Param} → Parameters extra s i j ps → Each (GoodParam extra s) ps
  params_good no_more = each_none
  params_good (and_one a q b p ps) = each_more (param_good p) (params_good ps)

  -- ---- and stays so where only some are kept

  keep_each : {P : Param → Type 0} {ps : List Param} (earlier : List (List ℕ)) → Each P ps → Each P (keep_after s earlier ps)
  keep_each earlier each_none = each_none
  keep_each {P} earlier (each_more {x = p} {xs = ps} g r) =
      go (is_once (name_of s p) && among earlier (name_of s p)) (keep_each (name_of s p ∷ earlier) r)
    where
      go : (b : Bool) → Each P (keep_after s (name_of s p ∷ earlier) ps)
          → Each P (unless b p (keep_after s (name_of s p ∷ earlier) ps))
      go true k = k
      go false k = each_more g k

  -- ---- the kept parameters have no name kept once twice

  -- two lists of names hold the same names kept once
  Agree : List (List ℕ) → List (List ℕ) → Type 0
  Agree A B = (n : List ℕ) → is_once n ≡ true → among A n ≡ among B n

  agree_more : (A B : List (List ℕ)) (m : List ℕ) → Agree A B → Agree (m ∷ A) (m ∷ B)
  unfolding Agree
  agree_more A B m h n o = ap (λ (b : Bool). same n m || b) (h n o)

  agree_skip : (A B : List (List ℕ)) (m : List ℕ) → among A m ≡ true → Agree A B → Agree (m ∷ A) B
  unfolding Agree
  agree_skip A B m has h n o = go (same n m) refl
    where
      go : (b : Bool) → same n m ≡ b → (b || among A n) ≡ among B n
      go false e = h n o
      go true e = sym (sym (h n o) ∙ ap (among A) (same_sound n m e) ∙ has)

  once_kept : (A B : List (List ℕ)) (ps : List Param) → Agree A B → once_each s B (keep_after s A ps) ≡ true
  unfolding Agree
  once_kept A B [] h = refl
  once_kept A B (p ∷ ps) h =
      go (is_once n) refl (among A n) refl (once_kept (n ∷ A) (n ∷ B) ps) (once_kept (n ∷ A) B ps)
    where
      n : List ℕ
      n = name_of s p

      go : (x : Bool) → is_once n ≡ x → (y : Bool) → among A n ≡ y
          → (Agree (n ∷ A) (n ∷ B) → once_each s (n ∷ B) (keep_after s (n ∷ A) ps) ≡ true)
          → (Agree (n ∷ A) B → once_each s B (keep_after s (n ∷ A) ps) ≡ true)
          → once_each s B (unless (x && y) p (keep_after s (n ∷ A) ps)) ≡ true
      go true e true f kept skipped = skipped (agree_skip A B n f h)
      go true e false f kept skipped = rw (e, sym (h n e) ∙ f) (kept (agree_more A B n h))
      go false e y f kept skipped = rw e (kept (agree_more A B n h))

  -- ---- links

  link_good : {i j : ℕ} {l : Link} → Grammar.OneLink extra s i j l → ReferenceAt s l.target_from l.target_to
      → GoodLink extra s (kept_link s l)
  unfolding Agree
  link_good (link {ps = ps} q t k d) r =
      record {
        target_span = record { ordered = target_le s t; inside = omega (arith, k.inside) };
        target = t;
        reference = r;
        params = keep_each [] (params_good d);
        once = once_kept [] [] ps (λ n o. refl);
      }

  items_good : {i j : ℕ} {ls : List Link} → Items extra s i j ls → References s ls → Each (GoodLink extra s) (map (kept_link s) ls)
  items_good (last empty) r = each_none
  items_good (last (one l)) r = each_more (link_good l r.0) each_none
  items_good (comma empty a q b it) r = items_good it r
  items_good (comma (one l) a q b it) r = each_more (link_good l r.0) (items_good it r.1)

pub read_good : ReadGood
read_good extra h K X Y r =
    record {
      good =
          record {
            link_room = omega (arith, length-append (link_records 0 K) X, link_records_length 0 K);
            param_room = omega (arith, length-append (param_records h K) Y, param_records_length h K);
            follows = filled_follows K X;
            links =
                rw (filled_links h K X Y, r.kept) (items_good extra h r.derived.items r.references);
            codes = filled_codes h K Y;
          };
      same_links = filled_links h K X Y;
    }
