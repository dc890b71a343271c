mod Arriving
