-- The events of a put at its row: what each asks, and what follows.
use Rattle.std.proofs.Common.{◌≡◌, ◌∙◌, ◌<◌, ℕ, Bool, true, false, if◌then◌else◌, Option, Some, None, arith, refl, sym, ap, subst}
use Rattle.kw_words.specs.declared.kind.Kind.{Kind}
use Rattle.kw_words.specs.declared.kind.Kind.TheVariants as kind
use Rattle.kw_words.specs.declared.pend.Pend.TheVariants.{Pending, Stamped}
use Rattle.kw_words.specs.Pend.{IsPend}
use Rattle.kw_words.specs.declared.layout.Name.{Name}
use Rattle.kw_words.specs.declared.layout.Name.TheVariants.{Key}
use Rattle.std.proofs.lemmas.Bool.{lt-ltb}
use Rattle.kw_words.specs.Plain.{IsCell}
use Rattle.kw_words.specs.declared.sizes.TheConstants.{CELLS}
use Rattle.kw_world.specs.declared.activity.Activity.{Activity}
use Rattle.kw_world.specs.declared.activity.insert.Insert.TheVariants as Insert
use Rattle.kw_world.specs.declared.activity.read.Read.TheVariants as Read
use Rattle.kw_world.specs.declared.event.Choice.{Choice}
use Rattle.kw_world.specs.declared.event.Choice.TheVariants.{Go, Guess}
use Rattle.kw_world.specs.declared.local.Local.{Local}
use Rattle.kw_world.specs.declared.operation.Action.TheVariants.{Load, Store, Exchange}
use Rattle.kw_world.specs.ListTransitions.{first_operation, link_name}
use Rattle.kw_world.specs.Sane.{IsCellBelow, IsLocal}
use Rattle.kw_world.specs.Sizes.{product}
use Rattle.kw_world.specs.Step.{next_of, transition_of}
use Rattle.kw_world.specs.Table.{transition}
use Rattle.kw_core.specs.Stages.{IsAtInsertLink, IsBusy, is_putting}
use Rattle.kw_table.specs.declared.pass.Pass.{Pass}
use Rattle.kw_table.specs.declared.shared.Shared.{Shared}
use Rattle.kw_table.specs.Passes.{view, operation, Asks}
use Rattle.kw_follow.specs.Following.{Follows}
use Rattle.kw_follow.specs.Within.{IsAtStart, IsWithinCall}
use Rattle.kw_follow.proofs.OneEvent.{asks, begins_in, moves_in}
use Rattle.kw_follow.proofs.WayEvents.{offered_guess}

-- the operation of the line is the one that the pass makes next
pub asks_at : (s : Shared) (p : Pass) (l : Local) (a : Activity) → Follows s p l → l.activity ≡ a → IsBusy a → Asks s p Go (transition product a (view p).number Go l).operation
unfolding transition_of
asks_at s p l a f is busy =
    let b : IsBusy l.activity = subst IsBusy (sym is) busy in
    asks s p Go l s.opening.rows (view p).number Go _ f (begins_in s p l Go f b) (moves_in s p l Go f b) refl refl refl (ap (λ x. (transition product x (view p).number Go l).operation) (sym is))

-- and what follows is what the line says
pub next_at : (rows : ℕ) (a : Activity) (l : Local) (told : ℕ) → l.activity ≡ a → (transition product a 0 Go l).next rows told ≡ next_of product rows Go l told
unfolding transition_of
next_at rows a l told is = ap (λ x. (transition product x 0 Go l).next rows told) (sym is)

-- so it is for every choice
pub next_chosen : (rows : ℕ) (c : Choice) (a : Activity) (l : Local) (told : ℕ) → l.activity ≡ a → (transition product a 0 c l).next rows told ≡ next_of product rows c l told
unfolding transition_of
next_chosen rows c a l told is = ap (λ x. (transition product x 0 c l).next rows told) (sym is)

-- a cell of a row is one that a link may lead to
pub cell_below : (cell : Option ℕ) → IsCellBelow CELLS cell → IsCell cell
cell_below (Some c) o = omega (arith, o)
cell_below None o = tt

-- the words of a put's own entry are in range
pub pending_fits : (l : Local) → IsLocal product l → IsPend (Pending l.cell)
pending_fits l k = omega (arith, k.cell)

pub stamped_fits : (l : Local) → IsLocal product l → IsPend (Stamped l.cell l.version)
stamped_fits l k = (omega (arith, k.cell), k.version.0, k.version.1)

-- a put at its row is in the middle of its call
pub put_within : (a : Activity) → is_putting a ≡ true → IsWithinCall a
put_within (Activity.Put _) m = tt
put_within (Activity.Insert _) m = tt
put_within _ m = let x : false ≡ true = m in absurd (cc)

-- a store, and an exchange, with the words that code packs
pub asks_stored_at : (s : Shared) (p : Pass) (l : Local) (a : Activity) (k : Kind) (n m : Name) (x y : ℕ) → Follows s p l → l.activity ≡ a → IsBusy a → n ≡ m → x ≡ y → operation k m (Store y) ≡ (transition product a (view p).number Go l).operation → Asks s p Go (operation k n (Store x))
asks_stored_at s p l a k n m x y f is busy name word line =
    subst (λ (q : Name). Asks s p Go (operation k q (Store x))) (sym name)
    (subst (λ (w : ℕ). Asks s p Go (operation k m (Store w))) (sym word)
    (subst (Asks s p Go) (sym line) (asks_at s p l a f is busy)))

pub asks_stored : (s : Shared) (p : Pass) (l : Local) (a : Activity) (k : Kind) (n : Name) (x y : ℕ) → Follows s p l → l.activity ≡ a → IsBusy a → x ≡ y → operation k n (Store y) ≡ (transition product a (view p).number Go l).operation → Asks s p Go (operation k n (Store x))
asks_stored s p l a k n x y f is busy word line = asks_stored_at s p l a k n n x y f is busy refl word line

pub asks_exchanged : (s : Shared) (p : Pass) (l : Local) (a : Activity) (k : Kind) (n m : Name) (x y u w : ℕ) → Follows s p l → l.activity ≡ a → IsBusy a → n ≡ m → x ≡ y → u ≡ w → operation k m (Exchange y w) ≡ (transition product a (view p).number Go l).operation → Asks s p Go (operation k n (Exchange x u))
asks_exchanged s p l a k n m x y u w f is busy name expected stored line =
    subst (λ (q : Name). Asks s p Go (operation k q (Exchange x u))) (sym name)
    (subst (λ (e : ℕ). Asks s p Go (operation k m (Exchange e u))) (sym expected)
    (subst (λ (e : ℕ). Asks s p Go (operation k m (Exchange y e))) (sym stored)
    (subst (Asks s p Go) (sym line) (asks_at s p l a f is busy))))

-- the load of a link
pub asks_link : (s : Shared) (p : Pass) (l : Local) (n : Name) → Follows s p l → IsAtInsertLink l.activity → n ≡ link_name l.row l.link → Asks s p Go (operation kind.LoadAfter n Load)
asks_link s p l n f at name = subst (λ (m : Name). Asks s p Go (operation kind.LoadAfter m Load)) (sym name) (loads l.activity refl at)
  where
    loads : (a : Activity) → l.activity ≡ a → IsAtInsertLink a → Asks s p Go (operation kind.LoadAfter (link_name l.row l.link) Load)
    loads (Activity.Insert Insert.Start) is x = asks_at s p l (Activity.Insert Insert.Start) f is tt
    loads (Activity.Insert Insert.Link) is x = asks_at s p l (Activity.Insert Insert.Link) f is tt
    loads _ is x = absurd x

-- the load of the key of a cell behind which a walk along a list is to begin
pub asks_guessed_key : (s : Shared) (p : Pass) (l : Local) (a : Activity) (cell : ℕ) → Follows s p l → l.activity ≡ a → IsAtStart a → cell < l.built → cell < s.opening.rows → Asks s p (Guess cell) (operation kind.LoadKey (Key l.row cell) Load)
unfolding transition_of
asks_guessed_key s p l a cell f is at inside below =
    let b : IsBusy l.activity = subst IsBusy (sym is) (start_busy a at) in
    asks s p (Guess cell) l s.opening.rows (view p).number (Guess cell) _ f (begins_in s p l (Guess cell) f b) (moves_in s p l (Guess cell) f b) refl refl (sym (offered_guess _ cell below)) (key_line a cell l (view p).number at inside ∙ ap (λ x. (transition product x (view p).number (Guess cell) l).operation) (sym is))
  where
    start_busy : (a : Activity) → IsAtStart a → IsBusy a
    start_busy (Activity.Read _) x = tt
    start_busy (Activity.Insert _) x = tt
    start_busy _ x = absurd x

    key_line : (a : Activity) (cell : ℕ) (l : Local) (n : ℕ) → IsAtStart a → cell < l.built → operation kind.LoadKey (Key l.row cell) Load ≡ (transition product a n (Guess cell) l).operation
    key_line (Activity.Read Read.Start) cell l n x inside = ap (λ (g : Bool). first_operation (if g then Some cell else None) l) (sym (lt-ltb cell l.built inside))
    key_line (Activity.Insert Insert.Start) cell l n x inside = ap (λ (g : Bool). first_operation (if g then Some cell else None) l) (sym (lt-ltb cell l.built inside))
    key_line (Activity.Read Read.Link) cell l n x inside = absurd x
    key_line (Activity.Insert Insert.Link) cell l n x inside = absurd x
    key_line _ cell l n x inside = absurd x
