-- Written octets are derived again, and mean what was written.
use Prim.Native.Nat.{ℕ, suc, ◌≤◌}
use mathlib.Core.Path.{◌≡◌, refl, sym, ap, ap₂, ◌∙◌}
use mathlib.Core.Bool.{Bool, true, false, cond, ◌||◌, false≢true}
use mathlib.Core.List.{List, [], ◌∷◌, ◌++◌, map, append-nil, append_assoc}
use lib.Dec.{eqb}
use lib.ListN.{length, drop}
use Rattle.octets.specs.Sets.{all, is_blank, is_token, is_escapable}
use Rattle.octets.specs.Fold.{folded}
use Rattle.octets.specs.Editions.{further}
use Rattle.octets.specs.declared.editions.Edition.TheVariants.{Rfc8288}
use Rattle.grammar.specs.Link.{Link, Param}
use Rattle.grammar.specs.Grammar
use Rattle.grammar.specs.Grammar.{run_end, run_more, Value, token, quoted}
use Rattle.grammar.specs.Grammar.{
  valued,
  Parameters,
  no_more,
  and_one,
  OneLink,
  link,
  empty,
  one,
  Items,
  last,
  comma,
}
use Rattle.grammar.specs.Kept.{name_of}
use Rattle.grammar.proofs.Exact.{left_none}
use Rattle.tables.specs.Good.{Each, each_none, each_more}
use Rattle.tables.specs.Meaning.{
  unescape_from,
  unescape,
  value_of,
  ParamMeaning,
  param_meaning,
  LinkMeaning,
  link_meaning,
  meanings,
}
use Rattle.tables.specs.Written.{
  is_token_text,
  escape,
  written_value,
  written_param,
  written_params,
  written_link,
  written,
}
use Rattle.tables.proofs.Texts.{TargetText, unescape_plain}
use Rattle.tables.proofs.Spelt.{Head, head, at, target_spells, inside_spells, some_spells, is_in_lem}

-- ---- what can be written and read again

pub data NameText : List ℕ → Type 0 where
  name_text : {c : ℕ} {cs : List ℕ} → all is_token (c ∷ cs) ≡ true → folded (c ∷ cs) ≡ c ∷ cs → NameText (c ∷ cs)

pub record ParamText (p : ParamMeaning) : Type 0 where
  pub name : NameText p.name
  pub value : all is_escapable p.value ≡ true

pub record LinkText (l : LinkMeaning) : Type 0 where
  pub target : TargetText l.target
  pub params : Each ParamText l.params

-- escaping is undone
unescape_escape : (v : List ℕ) → unescape_from false (escape v) ≡ v
unescape_escape [] = refl
unescape_escape (c ∷ v) = go (eqb c 34) refl (eqb c 92) refl (unescape_escape v)
  where
    go : (x : Bool) → eqb c 34 ≡ x → (y : Bool) → eqb c 92 ≡ y → unescape_from false (escape v) ≡ v
        → unescape_from false (cond (x || y) (92 ∷ c ∷ escape v) (c ∷ escape v)) ≡ c ∷ v
    go true p y q e = ap (λ (x : List ℕ). c ∷ x) e
    go false p true q e = ap (λ (x : List ℕ). c ∷ x) e
    go false p false q e = unescape_plain c (escape v) q ∙ ap (λ (x : List ℕ). c ∷ x) e

module _ (t : List ℕ) where
  -- ---- a value

  record ValueBack (v : List ℕ) (i : ℕ) (ys : List ℕ) : Type 0 where
    stop : ℕ
    a : ℕ
    b : ℕ
    f : ℕ
    derived : Value (further Rfc8288) t i stop a b f
    inside : stop ≤ length t
    left : drop stop t ≡ ys
    means : (n e : ℕ) → value_of t (record { name_from = n; name_to = e; value_from = a; value_to = b; form = f }) ≡ v

  value_back : (v ys : List ℕ) (i : ℕ) → all is_escapable v ≡ true → drop i t ≡ written_value v ++ ys → ValueBack v i ys
  unfolding written_value value_of unescape
  value_back v ys i ok e = go v (is_token_text v) refl ok e
    where
      go : (v : List ℕ) (x : Bool) → is_token_text v ≡ x → all is_escapable v ≡ true
          → drop i t ≡ cond x v (34 ∷ escape v ++ 34 ∷ []) ++ ys → ValueBack v i ys
      go [] true q ok e = absurd (false≢true q)
      go (c ∷ cs) true q ok e =
          let s = some_spells t cs ys i q e in
          record {
            stop = s.stop;
            a = i;
            b = s.stop;
            f = 1;
            derived = token s.derived;
            inside = s.inside;
            left = s.left;
            means = λ n e. s.spelt;
          }
      go v false q ok e =
          let d : Head t i 34 (escape v ++ 34 ∷ ys) =
          head t (e ∙ ap (λ (x : List ℕ). 34 ∷ x) (append_assoc (escape v) (34 ∷ []) ys))
          in
          let s = inside_spells t v (34 ∷ ys) (suc i) ok d.inside d.left in
          let z : Head t s.stop 34 ys = head t s.left in
          record {
            stop = suc s.stop;
            a = suc i;
            b = s.stop;
            f = 2;
            derived = quoted (at t d) s.derived (at t z);
            inside = z.inside;
            left = z.left;
            means = λ n e. ap (unescape_from false) s.spelt ∙ unescape_escape v;
          }

  -- ---- parameters

  record ParamBack (p : ParamMeaning) (i : ℕ) (ys : List ℕ) : Type 0 where
    stop : ℕ
    param : Param
    derived : (j : ℕ) (ps : List Param) → Parameters (further Rfc8288) t stop j ps → Parameters (further Rfc8288) t i j (param ∷ ps)
    inside : stop ≤ length t
    left : drop stop t ≡ ys
    means : param_meaning t param ≡ p

  param_back : (p : ParamMeaning) (ys : List ℕ) (i : ℕ) → ParamText p → drop i t ≡ written_param p ++ ys → ParamBack p i ys
  unfolding name_of is_blank
  param_back p ys i ok e = go p.name ok.name (e ∙ ap (λ (x : List ℕ). 59 ∷ 32 ∷ x) (append_assoc p.name (61 ∷ written_value p.value) ys))
    where
      go : (n : List ℕ) → NameText n → drop i t ≡ 59 ∷ 32 ∷ (n ++ 61 ∷ (written_value p.value ++ ys))
          → ParamBack (record { name = n; value = p.value }) i ys
      go n (name_text {c = c} {cs = cs} all_token is-folded) e =
          let semi : Head t i 59 (32 ∷ (c ∷ cs ++ 61 ∷ (written_value p.value ++ ys))) = head t e in
          let space : Head t (suc i) 32 (c ∷ cs ++ 61 ∷ (written_value p.value ++ ys)) = head t semi.left in
          let name = some_spells t cs (61 ∷ (written_value p.value ++ ys)) (suc (suc i)) all_token space.left in
          let equals : Head t name.stop 61 (written_value p.value ++ ys) = head t name.left in
          let value = value_back p.value ys (suc name.stop) ok.value equals.left in
          record {
            stop = value.stop;
            param =
                record {
                  name_from = suc (suc i);
                  name_to = name.stop;
                  value_from = value.a;
                  value_to = value.b;
                  form = value.f;
                };
            derived =
                λ j ps more.
                and_one run_end (at t semi) (run_more (is_in_lem t space refl) run_end)
                (valued name.derived run_end (at t equals) run_end value.derived) more;
            inside = value.inside;
            left = value.left;
            means =
                ap₂ (λ (x y : List ℕ). record { name = x; value = y }) (ap folded name.spelt ∙ is-folded)
                (value.means (suc (suc i)) name.stop);
          }

  record ParamsBack (ms : List ParamMeaning) (i : ℕ) (ys : List ℕ) : Type 0 where
    stop : ℕ
    params : List Param
    derived : Parameters (further Rfc8288) t i stop params
    inside : stop ≤ length t
    left : drop stop t ≡ ys
    means : map (param_meaning t) params ≡ ms

  params_back : {ms : List ParamMeaning} (ys : List ℕ) (i : ℕ) → Each ParamText ms → i ≤ length t
      → drop i t ≡ written_params ms ++ ys → ParamsBack ms i ys
  params_back ys i each_none h e =
      record { stop = i; params = []; derived = no_more; inside = h; left = e; means = refl }
  params_back ys i (each_more {x = m} {xs = ms} ok rest) h e =
      let p = param_back m (written_params ms ++ ys) i ok (e ∙ append_assoc (written_param m) (written_params ms) ys) in
      let r = params_back ys p.stop rest p.inside p.left in
      record {
        stop = r.stop;
        params = p.param ∷ r.params;
        derived = p.derived r.stop r.params r.derived;
        inside = r.inside;
        left = r.left;
        means = ap₂ (λ x xs. x ∷ xs) p.means r.means;
      }

  -- ---- links

  record LinkBack (m : LinkMeaning) (i : ℕ) (ys : List ℕ) : Type 0 where
    stop : ℕ
    link : Link
    derived : OneLink (further Rfc8288) t i stop link
    inside : stop ≤ length t
    left : drop stop t ≡ ys
    means : link_meaning t link ≡ m

  link_back : (m : LinkMeaning) (ys : List ℕ) (i : ℕ) → LinkText m → drop i t ≡ written_link m ++ ys → LinkBack m i ys
  link_back m ys i ok e =
      let start : Head t i 60 (m.target ++ 62 ∷ (written_params m.params ++ ys)) =
      head t (e ∙ ap (λ (x : List ℕ). 60 ∷ x) (append_assoc m.target (62 ∷ written_params m.params) ys))
      in
      let target = target_spells t (62 ∷ (written_params m.params ++ ys)) (suc i) ok.target start.inside start.left in
      let close : Head t target.stop 62 (written_params m.params ++ ys) = head t target.left in
      let params = params_back ys (suc target.stop) ok.params close.inside close.left in
      record {
        stop = params.stop;
        link = record { target_from = suc i; target_to = target.stop; params = params.params };
        derived = Grammar.link (at t start) target.derived (at t close) params.derived;
        inside = params.inside;
        left = params.left;
        means = ap₂ (λ x y. record { target = x; params = y }) target.spelt params.means;
      }

  pub record LinksBack (ms : List LinkMeaning) (i : ℕ) : Type 0 where
    pub stop : ℕ
    pub links : List Link
    pub derived : Items (further Rfc8288) t i stop links
    pub ended : stop ≡ length t
    pub means : meanings t links ≡ ms

  pub links_back : {ms : List LinkMeaning} (i : ℕ) → Each LinkText ms → i ≤ length t → drop i t ≡ written ms → LinksBack ms i
  unfolding is_blank
  links_back i each_none h e =
      record { stop = i; links = []; derived = last empty; ended = left_none t i h e; means = refl }
  links_back i (each_more {x = m} ok each_none) h e =
      let l = link_back m [] i ok (e ∙ sym (append-nil (written_link m))) in
      record {
        stop = l.stop;
        links = l.link ∷ [];
        derived = last (one l.derived);
        ended = left_none t l.stop l.inside l.left;
        means = ap (λ x. x ∷ []) l.means;
      }
  links_back i (each_more {x = m} ok (each_more {x = n} {xs = ms} ok₁ rest)) h e =
      let l = link_back m (44 ∷ 32 ∷ written (n ∷ ms)) i ok e in
      let part : Head t l.stop 44 (32 ∷ written (n ∷ ms)) = head t l.left in
      let space : Head t (suc l.stop) 32 (written (n ∷ ms)) = head t part.left in
      let r = links_back (suc (suc l.stop)) (each_more ok₁ rest) space.inside space.left in
      record {
        stop = r.stop;
        links = l.link ∷ r.links;
        derived = comma (one l.derived) run_end (at t part) (run_more (is_in_lem t space refl) run_end) r.derived;
        ended = r.ended;
        means = ap₂ (λ x xs. x ∷ xs) l.means r.means;
      }
