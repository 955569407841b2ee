-- A handle owns what a box of a session owns, so the steps for boxes serve here.
use mathlib.Core.Path.{refl}
use mathlib.Core.List.{[], ◌∷◌}
use mir.Raw.{raw}
use mir.Syntax.{impl, tcons, tnil, dnil}
use denote.Exit.{no}
use denote.Param.{arg, layout}
use denote.Param.Laws.{arg_laws}
use denote.RattleType.{RattleType}
use Rattle.std.proofs.BoxSteps.Form.{Bx, D}
use Rattle.std.specs.contracts.alloc.Global.{the_row as Heap}
use Rattle.std.specs.contracts.impls.GlobalAllocator.TheImpl.{ghosts, dict}
use Rattle.std.proofs.alloc.Global.TheLaws as heap
use Rattle.redis_session.specs.contracts.session.Session.{the_row as Inner}
use Rattle.redis_session.proofs.session.Session.TheLaws as inner
use Rattle.slotroute_c.specs.contracts.session_handle.SessionHandle.{the_row as Outer}

-- a type as a call of a generic function passes it
abbrev passed : RattleType → RattleType
passed row = arg (raw (layout row)) no row

abbrev pub Boxed : Bx
Boxed = record {
  row = passed Inner;
  laws = arg_laws (raw (layout Inner)) no Inner inner.the_row_laws refl;
  al = record {
    row = passed Heap;
    laws = arg_laws (raw (layout Heap)) no Heap heap.the_row_laws refl;
    g = ghosts;
    d = dict;
    drops = impl ("slotroute_c::Destruct++none::drop" ∷ []) (tcons (raw (layout Heap)) tnil) dnil;
  };
}

abbrev pub as_box : Outer.Denot → D Boxed
as_box h = record { ptr = h.at; alloc = h.alloc; value = h.value }
