-- What a base gives to a result.
use Rattle.std.specs.Prelude.{ℕ, ◌≤◌, ◌≡◌, List, ◌++◌, length}
use Rattle.std.proofs.Math.Seq.{slice}
use Rattle.octets.specs.Text.{octets}
use Rattle.kinds.specs.declared.Place.{Place}
use Rattle.kinds.specs.declared.Span.{Span}
use Rattle.tables.specs.Good.{InText}
use Rattle.references.specs.Components.{Parts, marked, split}
use Rattle.resolution.specs.Dots.{remove_dots}
use Rattle.resolution.specs.Laws.{left_of_path}
use Rattle.resolution.specs.Resolve.{resolved}
use Rattle.components.specs.declared.Cuts.{Cuts}
use Rattle.routes.specs.Laid.{part}
use Rattle.routes.specs.declared.Route.{Route}
use Rattle.routing.specs.declared.Plan.{Plan}
use Rattle.routing.specs.Folders.{Closed}

-- what stands right of the path
abbrev pub right_of_path : Parts → List ℕ
right_of_path r = marked (octets "?") r.query ++ marked (octets "#") r.fragment

-- Every result has this shape: h of the base, and the reference with u of the base put before its path, whose dots are removed
abbrev pub shape : List ℕ → List ℕ → Parts → List ℕ
shape h u r = h ++ (left_of_path r ++ (remove_dots (u ++ r.path) ++ right_of_path r))

-- the base up to a place, and nothing before the path
abbrev pub up_to : Place → Plan
up_to k = record { head = k; folder = record { from = k; to = k } }

-- the plan for the reference w
pub record Plans (base w : List ℕ) (p : Plan) : Type 0 where
  pub head : p.head.0 ≤ length base
  pub folder : InText base p.folder.from.0 p.folder.to.0
  pub closed : Closed (part base p.folder)
  pub result : resolved base w ≡ shape (slice 0 p.head.0 base) (part base p.folder) (split w)

-- the parts of a result: of its path those from place g of the folder and from place o of the reference's own on
abbrev pub route_of : Span → Cuts → Plan → Place → Place → Route
route_of at r p g o =
    record {
      head = p.head;
      front = record { from = at.from; to = r.path };
      folder = record { from = g; to = p.folder.to };
      own = record { from = o; to = r.query };
      tail = record { from = r.query; to = at.to };
    }
