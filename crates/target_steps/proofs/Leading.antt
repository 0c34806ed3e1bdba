-- Where a target leads, by what resolving and looking for it answer. Assumes nothing.
use Prim.Native.Nat.{ℕ, ◌≤◌, ◌<◌}
use mathlib.Core.Path.{◌≡◌, refl, sym, ap, subst, ◌∙◌}
use mathlib.Core.List.{List}
use mathlib.Core.Option.{none, some}
use Rattle.std.specs.Prelude.{Option, Some, None, Result, Ok, Err, ok_or}
use Rattle.answers.specs.declared.walk_answer.End.{End}
use lib.ListN.{length, take}
use lib.Seq.{slice}
use Rattle.references.specs.AppendixA.{IsReference}
use Rattle.resolution.specs.Resolve.{resolved}
use Rattle.outcomes.specs.Number.{limit}
use Rattle.outcomes.specs.Resolve.{Fitted}
use Rattle.answers.specs.Length.{length_numbers, length_out}
use Rattle.answers.specs.declared.Refusal.{Refusal}
use Rattle.answers.specs.declared.walk_answer.End.TheVariants.{NoTarget, NoPack}
use Rattle.bare.specs.Bare.{bare_of}
use Rattle.kinds.specs.declared.PackNumber.{PackNumber}
use Rattle.catalogues.specs.Packs.{Pack}
use Rattle.catalogues.specs.Steps.{to_pack, to_target}
use Rattle.pack_index.specs.Index.{FoundBy}
use Rattle.target_steps.specs.Stepped.{within, Listed, LeadsTo}
use Rattle.target_steps.proofs.Numbers.{found_number, nowhere_number}
use Rattle.target_steps.proofs.Resolving.{Written, wrote, over_limit, as_written, long_uri, long_result, both_short}

module _ (s X : List ℕ) (n : ℕ) (u v : List ℕ) (a e : ℕ) where
  abbrev result : List ℕ
  result = resolved u (slice a e v)

  pub over_uri : limit < length u → LeadsTo s X n u v a e (Err NoTarget)
  over_uri h ps l = ap (to_target ps) (long_uri u result h)

  module _ (ref : IsReference (slice a e v)) (short : length u ≤ limit) {out out' : List ℕ} {r : Result ℕ Refusal}
      (f : Fitted out (resolved u (bare_of v a e)) (length_out (length_numbers r) out')) where
    pub over_result : {w : Refusal} → r ≡ Err w → limit ≤ length out → LeadsTo s X n u v a e (Err NoTarget)
    over_result y h ps l =
        let long = subst (λ (x : List ℕ). limit < length x) (as_written u v a e ref) (over_limit f y h) in
        ap (to_target ps) (long_result u result short long)

    module _ {k : ℕ} (y : r ≡ Ok k) where
      all_there : Written out' (resolved u (bare_of v a e)) k
      all_there = wrote f y

      is_result : take k out' ≡ result
      is_result = all_there.octets ∙ as_written u v a e ref

      to_result : within u result ≡ some result
      to_result = both_short u result short (subst (λ (x : List ℕ). length x ≤ limit) (as_written u v a e ref) all_there.short)

      leads : {found : Option PackNumber} {j : PackNumber} → FoundBy s X n (take k out') found → found ≡ Some j → LeadsTo s X n u v a e (Ok j)
      leads {found} h z ps l =
          ap (to_target ps) to_result
          ∙ ap to_pack (found_number l result (subst (λ (w : List ℕ). FoundBy s X n w found) is_result h) z)

      leads_nowhere : {found : Option PackNumber} → FoundBy s X n (take k out') found → found ≡ None → LeadsTo s X n u v a e (Err NoPack)
      leads_nowhere {found} h z ps l =
          ap (to_target ps) to_result
          ∙ ap to_pack (nowhere_number l result (subst (λ (w : List ℕ). FoundBy s X n w found) is_result h) z)

      -- the pack that was found, or that there is none
      pub leads_as_found : (found : Option PackNumber) {r : Result PackNumber End} → FoundBy s X n (take k out') found → r ≡ ok_or found NoPack
          → LeadsTo s X n u v a e r
      leads_as_found (Some j) h z = subst (LeadsTo s X n u v a e) (sym z) (leads h refl)
      leads_as_found None h z = subst (LeadsTo s X n u v a e) (sym z) (leads_nowhere h refl)
