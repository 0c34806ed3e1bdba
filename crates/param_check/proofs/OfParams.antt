-- A loop that passes the parameters of a link: it stands at the kth, and those that are left tell what all of them are.
use Prim.Native.Nat.{ℕ, zero, suc, ◌+◌, ◌-◌, ◌≤◌, ◌<◌}
use native.Mathlib.Omega.{arith}
use native.Mathlib.Nat.{add-zero, sub-zero}
use mathlib.Core.Path.{◌≡◌, refl, sym, ap, subst, ◌∙◌}
use mathlib.Core.Bool.{Bool, true, false, ◌&&◌, not, false≢true}
use mathlib.Core.List.{List, [], ◌∷◌}
use borrow.Author.Tests.{not-true}
use Rattle.octets.proofs.Octets.{both}
use Rattle.grammar.specs.Link.{Param}
use Rattle.grammar.specs.Grammar.{Extra}
use Rattle.grammar.specs.Kept.{name_of, among, is_once, code_of}
use Rattle.tables.specs.Table.{param_at, params_from}
use Rattle.tables.specs.Good.{each_none, each_more, once_each, GoodParam, Agrees, AgreeFrom}
use Rattle.tables.proofs.InGood.{head_of, tail_of}
use Rattle.records.specs.Slots.{IsParam, to_param}
use Rattle.records.specs.declared.ParamRecord.{ParamRecord}
use Rattle.names.specs.Remembers.{Remembers, none_seen, has_code, with_code}
use Rattle.names.specs.declared.Seen.{Seen}
use Rattle.names.proofs.Seeing.{nothing_seen, has_told, seen_with}
use Rattle.part_check.specs.Decides.{Decides}
use Rattle.param_check.specs.Params.{CodedParam, GoodParams}
use Rattle.part_check.proofs.Deciding.{is_so, not_so}

-- the parameter p repeats a name kept once
abbrev repeats : List ℕ → List (List ℕ) → Param → Bool
repeats s earlier p = is_once (name_of s p) && among earlier (name_of s p)

-- the first of n + 1 records from number j on, and the rest
record FirstParam (extra : Extra) (s P : List ℕ) (earlier : List (List ℕ)) (j n : ℕ) : Type 0 where
  good : GoodParam extra s (param_at P j)
  agrees : Agrees s P j
  new : repeats s earlier (param_at P j) ≡ false
  rest : GoodParams extra s P (name_of s (param_at P j) ∷ earlier) (suc j) n

module _ {extra : Extra} {s P : List ℕ} {earlier : List (List ℕ)} {j n : ℕ} where
  split : GoodParams extra s P earlier j (suc n) → FirstParam extra s P earlier j n
  split g =
      let p = param_at P j in
      let o = both (not (repeats s earlier p)) (once_each s (name_of s p ∷ earlier) (params_from P (suc j) n)) g.once in
      record {
        good = head_of g.each;
        agrees = subst (Agrees s P) (add-zero j) (g.codes 0 (omega arith));
        new = not-true (repeats s earlier p) o.0;
        rest =
            record {
              each = tail_of g.each;
              once = o.1;
              codes = λ k l. let e : j + suc k ≡ suc j + k = omega arith in subst (Agrees s P) e (g.codes (suc k) (omega arith));
            };
      }

  joined : FirstParam extra s P earlier j n → GoodParams extra s P earlier j (suc n)
  joined g =
      record {
        each = each_more g.good g.rest.each;
        once = rw g.new g.rest.once;
        codes = codes;
      }
    where
      codes : AgreeFrom s P j (suc n)
      codes zero l = subst (Agrees s P) (sym (add-zero j)) g.agrees
      codes (suc k) l = let e : suc j + k ≡ j + suc k = omega arith in subst (Agrees s P) e (g.rest.codes k (omega arith))

module _ (extra : Extra) (s P : List ℕ) (first count : ℕ) where
  abbrev ParamsLeft : List (List ℕ) → ℕ → Type 0
  ParamsLeft earlier k = GoodParams extra s P earlier (first + k) (count - k)

  abbrev AllParams : Type 0
  AllParams = GoodParams extra s P [] first count

  pub record Checked (seen : Seen) (k : ℕ) : Type 0 where
    pub within : k ≤ count
    earlier : List (List ℕ)
    seen_earlier : Remembers seen earlier
    back : ParamsLeft earlier k → AllParams
    on : AllParams → ParamsLeft earlier k

module _ {extra : Extra} {s P : List ℕ} {first count : ℕ} where
  pub begin : {seen : Seen} → seen ≡ none_seen → Checked extra s P first count seen 0
  begin q =
      record {
        within = omega arith;
        earlier = [];
        seen_earlier = nothing_seen q;
        back = λ g. rw (add-zero, sub-zero) at g;
        on = λ g. rw (add-zero, sub-zero) g;
      }

  module _ {seen : Seen} {k : ℕ} (w : Checked extra s P first count seen k) where
    pub through : count ≤ k → Decides true (AllParams extra s P first count)
    through h =
        let z : count - k ≡ 0 = omega arith in
        is_so (w.back (rw z (record { each = each_none; once = refl; codes = λ j l. absurd (omega arith) })))

    -- the record r at number n, the kth of the link
    module _ (l : k < count) {n : ℕ} (at : n ≡ first + k) {r : ParamRecord} (is : IsParam P n r) where
      abbrev q : Param
      q = to_param r.parts

      same : q ≡ param_at P (first + k)
      same = rw at at is.parts

      more : count - k ≡ suc (count - (k + 1))
      more = omega arith

      next : first + (k + 1) ≡ suc (first + k)
      next = omega arith

      apart : AllParams extra s P first count → FirstParam extra s P w.earlier (first + k) (count - (k + 1))
      apart g = split (rw more at (w.on g))

      -- what is asked of the record is what is asked of it in the table
      recorded : CodedParam extra s r → GoodParam extra s (param_at P (first + k)) × Agrees s P (first + k)
      recorded g = (
        subst (GoodParam extra s) same g.good,
        sym (rw at at is.code) ∙ g.code ∙ ap (λ (p : Param). code_of (name_of s p)) same,
      )

      pub bad_param : (CodedParam extra s r → ⊥) → Decides false (AllParams extra s P first count)
      bad_param bad =
          not_so
          (λ g.
          bad
          (record {
            good = subst (GoodParam extra s) (sym same) (apart g).good;
            code = rw at at is.code ∙ (apart g).agrees ∙ ap (λ (p : Param). code_of (name_of s p)) (sym same);
          }))

      -- it is so, and b tells whether its name was seen
      module _ (so : CodedParam extra s r) {b : Bool} (asked : b ≡ has_code seen r.code) where
        told : b ≡ repeats s w.earlier (param_at P (first + k))
        told = has_told w.seen_earlier (name_of s q) so.code asked ∙ ap (repeats s w.earlier) same

        pub repeated : b ≡ true → Decides false (AllParams extra s P first count)
        repeated t = not_so (λ g. false≢true (sym (apart g).new ∙ sym told ∙ t))

        pub passed : {new : Seen} → b ≡ false → new ≡ with_code seen r.code → Checked extra s P first count new (k + 1)
        passed {new} f n =
            record {
              within = omega arith;
              earlier = name_of s (param_at P (first + k)) ∷ w.earlier;
              seen_earlier =
                  subst (λ (p : Param). Remembers new (name_of s p ∷ w.earlier)) same
                  (seen_with w.seen_earlier (name_of s q) so.code n);
              back =
                  λ g.
                  w.back
                  (rw more
                  (joined
                  (record { good = (recorded so).0; agrees = (recorded so).1; new = sym told ∙ f; rest = rw next at g })));
              on = λ g. rw next (apart g).rest;
            }
