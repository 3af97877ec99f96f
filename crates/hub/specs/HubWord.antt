-- 01's hub word, 64 bits: present 1, has parent 1, parent index 8, slot 8, depth plus one 3, speed 3, port 8, multi 1.
use Rattle.std.specs.Prelude.{ℕ, List, eqb, get_or}
use Rattle.def.specs.Packed.{packed, rest_below}
use Rattle.hub.specs.declared.hub_word.HubInfo.{HubInfo}

unfoldable pub hub_info : ℕ → HubInfo
hub_info w =
    record {
      present = eqb (packed 64 0 1 w) 1;
      has_parent = eqb (packed 64 1 1 w) 1;
      parent = packed 64 2 8 w;
      slot_id = packed 64 10 8 w;
      depth_plus_one = packed 64 18 3 w;
      speed = packed 64 21 3 w;
      port_id = packed 64 24 8 w;
      multi = eqb (packed 64 32 1 w) 1;
      unused = rest_below 64 33 w;
    }

-- The hub at an index of the list; past its end, one with every field 0.
unfoldable pub hub_at : List ℕ → ℕ → HubInfo
hub_at hubs at = hub_info (get_or hubs at 0)
