-- `terms_of` meets its contract. Assumes nothing.
use Rattle.float64.specs.Pick.{yes_of, no_of}
use Rattle.cache.proofs.Paths.{room_says}
use Rattle.cache.specs.Cache.{terms_at, terms_of}
use Rattle.cache.proofs.entries.terms_of.Goals as goal

pub entry_place-at-requires : goal.entry_place-at-requires
entry_place-at-requires c = room_says _ c.is_room.ensures c.if-not-is_room.false

pub returns-then-not-is_room : goal.returns-then-not-is_room
unfolding terms_of
returns-then-not-is_room c =
    let e = c.default.ensures in
    no_of _ c.is_room.ensures c.if-not-is_room.true
    (λ i. record { nll = e.0 i; score0 = e.1.0 i; score1 = e.1.1.0 i; i00 = e.1.1.1.0 i; i01 = e.1.1.1.1.0 i; i10 = e.1.1.1.1.1.0 i; i11 = e.1.1.1.1.1.1 i })

pub returns : goal.returns
unfolding terms_of terms_at
returns c =
    yes_of _ c.is_room.ensures c.if-not-is_room.false
    (simp (
      c.read-7.ensures,
      c.read-6.ensures,
      c.read-5.ensures,
      c.read-4.ensures,
      c.read-3.ensures,
      c.read-2.ensures,
      c.read.ensures,
      c.entry_place-at.ensures.0,
    ))
