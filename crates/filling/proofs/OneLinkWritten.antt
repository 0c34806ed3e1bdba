-- One link written: its target and its parameters are known to stand there, and there is room for its record.
use Prim.Native.Nat.{ℕ, ◌+◌, ◌-◌, ◌*◌, ◌<◌}
use native.Mathlib.Omega.{arith}
use native.Mathlib.Numerals.{add-one}
use mathlib.Core.Path.{◌≡◌, sym, ap₂, subst, ◌∙◌}
use mathlib.Core.List.{List, [], ◌∷◌, reverse}
use lib.ListN.{length}
use lib.Seq.{sets}
use Rattle.grammar.specs.Grammar.{Extra, At, Target}
use Rattle.grammar.specs.Kept.{keep_after}
use Rattle.grammar.specs.Records.{link_width, link_room_of}
use Rattle.grammar.specs.Machine.{opened}
use Rattle.kinds.specs.declared.Span.{Span}
use Rattle.scan_parts.specs.Stands.{Ready}
use Rattle.scan_parts.proofs.ReadyBehindValue.{ready_after}
use Rattle.scan_parts.proofs.PassedIsParsed.{FromTo}
use Rattle.scanner.specs.Linked.{Chain}
use Rattle.scanner.proofs.ReadyBehindLink.{after_close}
use Rattle.known.specs.Known.{KnownTarget}
use Rattle.filling.specs.Filling.{BeforeParams, ParamsFilled, BeforeLink, LinkFilled}
use Rattle.filling.proofs.PartOfReading.{part_links}

module _ {extra : Extra} {s L P : List ℕ} {a n m : ℕ} (b : BeforeLink extra s L P a n m) where
  -- a target is known to stand there
  pub known_target : KnownTarget s a
  known_target =
      record { extra = extra; links = b.links; from = a; known = record { all = b.all; derived = b.derived; stands = b.stands } }

  module _ {c j : ℕ} (passed : Target s a c × At s c 62) (k : j ≡ c + 1) where
    ready : Ready extra s (opened b.links a c) j
    ready =
        subst (Ready extra s (opened b.links a c)) (sym (k ∙ add-one c))
        (ready_after (after_close b.links passed.0 passed.1 b.stands))

    pub before_params : BeforeParams extra s P j m
    before_params =
        record {
          all = b.all;
          derived = b.derived;
          room = b.param_room;
          links = b.links;
          from = a;
          to = c;
          ready = ready;
          number = b.param_number;
        }

    pub link_room : n < link_room_of L
    link_room = omega (arith, part_links b.derived ready, b.link_room, b.link_number)

    pub link_filled : {i x : ℕ} {t : Span} {L' P' : List ℕ} → ParamsFilled extra s j i m x P P' → FromTo t a c
        → L' ≡ sets L (link_width * n) (t.from.0 ∷ t.to.0 ∷ m ∷ (x - m) ∷ []) → LinkFilled extra s a i n m x L L' P P'
    link_filled {i} {x} f p w =
        let kept : x - m ≡ length (keep_after s [] (reverse f.params)) = omega (arith, f.next) in
        record {
          count = x - m;
          link =
              record {
                close = c;
                target = passed.0;
                closed = passed.1;
                rest =
                    record {
                      params = f.params;
                      end = f.end;
                      chain = subst (λ (y : ℕ). Chain extra s y f.params f.end) (k ∙ add-one c) f.chain;
                      blanks = f.blanks;
                      ends = f.ends;
                      kept = kept;
                    };
              };
          next = omega (arith, f.next);
          links_written =
              w ∙ ap₂ (λ (y z : ℕ). sets L (link_width * n) (y ∷ z ∷ m ∷ (x - m) ∷ [])) p.0 p.1;
          params_written = f.written;
        }
