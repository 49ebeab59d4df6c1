-- Names that compare as equal are the same.
use Rattle.std.proofs.Common.{◌≡◌, Bool, refl, ap, Ordering}
use Rattle.std.specs.Prelude.{nat_eq, ◌&&◌}
use Rattle.std.specs.Ordering.{eq_by_cmp}
use Rattle.std.specs.Cmp.{IsTotalOrder}
use Rattle.line_rates.specs.declared.ask.Way.{Way}
use Rattle.line_rates.specs.declared.ask.Way.TheVariants.{Down, Up}
use Rattle.line_rates.specs.declared.ask.Name.{Name}
use Rattle.line_rates.specs.declared.ask.Name.TheVariants.{Server, Direction, Group, User, Session}
use Rattle.line_rates.specs.contracts.ask.NameOrd.TheImpl as ord
use Rattle.line_rates.specs.contracts.ask.NameOrd.TheImpl.Laws as laws
use Rattle.line_rates.specs.contracts.ask.NamePartialEq.TheImpl as eq
use Rattle.line_rates.specs.contracts.ask.WayPartialEq.TheImpl as way
use Rattle.line_rates.specs.Names.{same_way}
use Rattle.line_rates.specs.Grown.{same_name}

abbrev pub name_eq : Name → Name → Bool
name_eq = (eq.ghosts).eq

abbrev pub name_cmp : Name → Name → Ordering
name_cmp = (ord.ghosts).cmp

ways : (w v : Way) → (way.ghosts).eq w v ≡ same_way w v
ways Down Down = refl
ways Up Up = refl
ways Down Up = refl
ways Up Down = refl

pub names : (n m : Name) → name_eq n m ≡ same_name n m
names Server Server = refl
names (Direction w) (Direction v) = ways w v
names (Group w g) (Group v h) = ap (λ (b : Bool). b && nat_eq g h) (ways w v)
names (User w g) (User v h) = ap (λ (b : Bool). b && nat_eq g h) (ways w v)
names (Session w g s) (Session v h t) = ap (λ (b : Bool). b && (nat_eq g h && nat_eq s t)) (ways w v)
names n m = cc

pub total : IsTotalOrder name_cmp
total = laws.total-law

pub matches : (n m : Name) → name_eq n m ≡ eq_by_cmp name_cmp n m
matches = laws.matches_eq-law
