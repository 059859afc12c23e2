mod FourStops
